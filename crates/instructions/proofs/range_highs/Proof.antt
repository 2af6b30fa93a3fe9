-- `instructions::range_highs` meets its contract: the column is `map` of the rule over the table, by computation. Assumes nothing.
use mathlib.Core.Path.{refl}
use lib.IntN.{pos}
use Rattle.instructions.specs.Kinds.{kinds}
use Rattle.instructions.specs.HeldColumns.{range_of}
use Rattle.instructions.proofs.ColumnLaws.{column-at}
use Rattle.instructions.proofs.range_highs.Statement.{statement}
use Rattle.instructions.proofs.range_highs.Tie as tie

returns : tie.Need-returns
unfolding kinds range_of
returns c = record { at_kind = column-at (λ r. (range_of r.argument).high) (λ x. x) (λ r. (range_of r.argument).high) (pos 0) refl }

pub range_highs_spec : {M : Type 1} → statement M
range_highs_spec = tie.close (tie.spec returns)
