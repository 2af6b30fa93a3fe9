-- `file_layout::holds_cells` meets its contract. Assumes nothing.
use mathlib.Core.Path.{sym, ◌∙◌}
use Rattle.file_format.specs.declared.Section.TheVariants.{Fields}
use Rattle.file_format.specs.declared.Column.TheVariants.{Cell}
use Rattle.file_format.specs.Layout.{is_values}
use Rattle.file_format.proofs.LayoutLaws.{or-true, or-false}
use borrow.Author.Rules.{rules}
use Rattle.file_layout.proofs.holds_cells.Statement.{statement}
use Rattle.file_layout.proofs.holds_cells.Tie as tie

returns : tie.Need-returns-then-is_values
returns c = or-true (is_values Fields Cell c.args.role) (sym c.is_values.ensures ∙ c.if-is_values.true)

returns-2 : tie.Need-returns
returns-2 c = or-false (sym c.is_values.ensures ∙ c.if-is_values.false) c.is_values-2.ensures

pub holds_cells_spec : {M : Type 1} → statement M
holds_cells_spec = tie.close (tie.spec (λ c κs. search rules) returns (λ c κs. search rules) returns-2)
