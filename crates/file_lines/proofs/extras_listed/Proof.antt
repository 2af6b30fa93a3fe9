-- `file_lines::extras_listed` meets its contract. Assumes nothing.
use mathlib.Core.Path.{sym, ap, ◌∙◌}
use Rattle.file_format.specs.Layout.{list}
use Rattle.file_format.specs.Rows.{extras_in_range}
use Rattle.file_format.proofs.LayoutLaws.{list-none, list-words}
use Rattle.file_lines.proofs.ExtraLaws.{names-listed}
use borrow.Author.Rules.{rules}
use Rattle.file_lines.proofs.extras_listed.Statement.{statement}
use Rattle.file_lines.proofs.extras_listed.Tie as tie

returns : tie.Need-returns-then-same
unfolding extras_in_range
returns c =
    let a = c.args in
    sym (ap (extras_in_range (list a.names.now)) (list-none a.line.now (sym c.same.ensures ∙ c.if-same.true)))

returns-2 : tie.Need-returns
returns-2 c =
    let a = c.args in
    c.extras_in_range.ensures ∙ names-listed a.names.now _ ∙ sym (ap (extras_in_range (list a.names.now)) (list-words a.line.now (sym c.same.ensures ∙ c.if-same.false)))

pub extras_listed_spec : {M : Type 1} → statement M
extras_listed_spec =
    tie.close
    (tie.spec
    (λ c κs. search rules)
    returns
    (λ c κs. search rules)
    returns-2)
