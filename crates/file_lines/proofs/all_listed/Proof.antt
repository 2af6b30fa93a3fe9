-- `file_lines::all_listed` meets its contract. Assumes nothing.
use mathlib.Core.Path.{sym, ap, ◌∙◌}
use Rattle.text.specs.Text.{all}
use Rattle.file_lines.specs.HeldLines.{word_test}
use Rattle.file_format.proofs.LayoutLaws.{list-none, list-words}
use borrow.Author.Rules.{rules}
use Rattle.file_lines.proofs.all_listed.Statement.{statement}
use Rattle.file_lines.proofs.all_listed.Tie as tie

returns : tie.Need-returns-then-same
unfolding all
returns c =
    sym (ap (all (word_test c.args.t)) (list-none c.args.line.now (sym c.same.ensures ∙ c.if-same.true)))

returns-2 : tie.Need-returns
returns-2 c =
    c.all_words.ensures ∙ sym (ap (all (word_test c.args.t)) (list-words c.args.line.now (sym c.same.ensures ∙ c.if-same.false)))

pub all_listed_spec : {M : Type 1} → statement M
all_listed_spec =
    tie.close (tie.spec
    (λ c κs. search rules)
    returns
    (λ c κs. search rules)
    returns-2)
