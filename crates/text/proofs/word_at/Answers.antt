-- `text::word_at` meets its contract: `split_words` gives the words.
use Rattle.std.proofs.Common.{ℕ, List, refl, ap, ◌∙◌}
use Rattle.std.specs.Borrow.{Bor}
use Rattle.std.proofs.lemmas.Iterator.Consumers.{nth_from_yields_List}
use Rattle.text.proofs.SplitLaws.{words-yielded, word-or-none}
use Rattle.text.proofs.word_at.Goals as goal

pub returns : goal.returns
returns c =
    let k = c.args.k in
    ap (λ (x : Bor (List ℕ)). x.now) c.unwrap_or.ensures
    ∙ word-or-none _ _ _ k (nth_from_yields_List _ _ k c.nth.ensures.ran (words-yielded c.args.line.now c.split_words.ensures)) refl
