-- `file_layout::is_values` meets its contract. Assumes nothing.
use mathlib.Core.Path.{sym, ap, ◌∙◌}
use Rattle.file_format.specs.Layout.{is_values}
use Rattle.file_format.proofs.LayoutLaws.{same-section, other-section, not-values}
use borrow.Author.Rules.{rules}
use Rattle.file_layout.proofs.is_values.Statement.{statement}
use Rattle.file_layout.proofs.is_values.Tie as tie

returns : tie.Need-returns-in_default
returns c = not-values _ _ c.args.role c.in_default.in_default-own.keys2

returns-2 : tie.Need-returns-then-section_place
returns-2 c =
    let role = c.in-Values in
    let start = c in
    same-section start.args.s role.t start.args.c role.d c.section_place.ensures c.section_place-2.ensures c.if-section_place.true c.column_place.ensures c.column_place-then-section_place.ensures
    ∙ sym (ap (is_values _ _) role.is)

returns-3 : tie.Need-returns
returns-3 c =
    let role = c.in-Values in
    let start = c in
    other-section start.args.s role.t start.args.c role.d c.section_place.ensures c.section_place-2.ensures c.if-section_place.false
    ∙ sym (ap (is_values _ _) role.is)

pub is_values_spec : {M : Type 1} → statement M
is_values_spec =
    tie.close
    (tie.spec
    (λ c. search rules)
    returns
    (λ c κs. search rules)
    (λ c κs. search rules)
    (λ c κs. search rules)
    (λ c κs. search rules)
    returns-2
    returns-3)
