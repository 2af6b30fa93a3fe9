-- `nearest_changes::single_of` meets its contract. Assumes nothing.
use mathlib.Core.Path.{ap, ◌∙◌}
use native.Mathlib.Omega.{arith}
use mir.Syntax.{w32}
use mir.ValLaws.{to_z-of_z}
use Rattle.cells.specs.Try.{done}
use Rattle.nearest_changes.proofs.SingleLaws.{single-one, single_more, single-handle}
use borrow.Author.Rules.{rules}
use Rattle.nearest_changes.proofs.single_of.Statement.{statement}
use Rattle.nearest_changes.proofs.single_of.Tie as tie

returns : tie.Need-returns-then-more-eq0
returns c = let v = c.in-Range in ap done (to_z-of_z w32 v.low (search rules)) ∙ single-one _ v.low v.more v.is (omega arith)

enum_told : tie.Need-enum_told-1
enum_told c = search rules

returns-2 : tie.Need-returns-else-more-eq0
returns-2 c = let v = c.in-Range in single_more _ v.low v.more v.is (omega arith)

returns-3 : tie.Need-returns-in-Handle
returns-3 c = single-handle _ _ c.in-Handle.is

pub single_of_spec : {M : Type 1} → statement M
single_of_spec = tie.close (tie.spec (λ c. search rules) returns enum_told returns-2 returns-3)
