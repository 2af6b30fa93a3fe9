-- `file_lines::all_words` meets its contract: `split_words` gives the words.
use Rattle.std.proofs.Common.{◌∙◌, rules, tests}
use Rattle.std.proofs.lemmas.Iterator.Search.{all_from_yields_List}
use Rattle.text.specs.Text.{line_words}
use Rattle.text.proofs.TextLaws.{list_all-all}
use Rattle.text.proofs.SplitLaws.{words-yielded}
use Rattle.file_lines.specs.HeldLines.{word_test}
use Rattle.file_lines.proofs.all_words.Goals as goal

pub returns : goal.returns
returns c =
    let line = c.args.line.now in
    all_from_yields_List (word_test c.args.t) c.all.new.self _ _ c.all.ensures.ran (words-yielded line c.split_words.ensures) (λ x b q k. search (rules, tests))
    ∙ list_all-all (word_test c.args.t) (line_words line)
