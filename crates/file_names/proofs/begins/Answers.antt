-- `file_names::begins` meets its contract: `zip` gives the words of both in pairs.
use Rattle.std.proofs.Common.{ℕ, List, sym, ◌∙◌, rules, tests, arith}
use Rattle.std.proofs.lemmas.Iterator.{YieldsList-from_zip}
use Rattle.std.proofs.lemmas.Iterator.Consumers.{YieldsList-at}
use Rattle.std.proofs.lemmas.Iterator.Search.{all_from_yields_List}
use Rattle.text.specs.Text.{equals, line_words}
use Rattle.text.proofs.SplitLaws.{words-yielded}
use Rattle.file_names.proofs.NameLaws.{leads-short, leads-pairs}
use Rattle.file_names.proofs.begins.Goals as goal

pub returns-then-count_words : goal.returns-then-count_words
returns-then-count_words c = sym (leads-short (line_words c.args.line.now) (line_words c.args.names.now) (omega arith))

pub returns : goal.returns
returns c =
    let line = c.args.line.now in
    let names = c.args.names.now in
    all_from_yields_List (λ (p : List ℕ × List ℕ). equals p.0 p.1) c.all.new.self _ _ c.all.ensures.ran
    (YieldsList-from_zip
    (YieldsList-at c.zip.ensures.first (words-yielded line c.split_words.ensures))
    (YieldsList-at c.zip.ensures.second (words-yielded names c.split_words-others.ensures)))
    (λ x b q k. search (rules, tests))
    ∙ leads-pairs (line_words line) (line_words names) (omega arith)
