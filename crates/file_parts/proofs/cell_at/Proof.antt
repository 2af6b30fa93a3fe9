-- `file_parts::cell_at` meets its contract. Assumes nothing.
use mathlib.Core.Path.{◌∙◌}
use Rattle.file_format.specs.Layout.{list}
use Rattle.file_parts.proofs.WordLaws.{cell-is}
use borrow.Author.Rules.{rules}
use Rattle.file_parts.proofs.cell_at.Statement.{statement}
use Rattle.file_parts.proofs.cell_at.Tie as tie

returns : tie.Need-returns
returns c = c.cell_of.ensures ∙ cell-is (list c.args.values.now) c.listed_at.result.now c.args.i c.listed_at.ensures

pub cell_at_spec : {M : Type 1} → statement M
cell_at_spec = tie.close (tie.spec (λ c κs. search rules) (λ c κs. search rules) returns)
