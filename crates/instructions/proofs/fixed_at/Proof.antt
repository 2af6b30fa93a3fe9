-- `instructions::fixed_at` meets its contract: the column is `map` of the rule over the table, by computation, and so is that each
-- entry fits. Assumes nothing.
use mathlib.Core.Path.{refl}
use mathlib.Core.Bool.{true}
use lib.Dec.{ltb}
use lib.IntN.{nat_abs}
use mir.Syntax.{w32}
use mir.Val.{to_z}
use Prim.Native.Nat.{◌^◌}
use borrow.Author.Rules.{rules}
use borrow.Author.Tests.{ltb-true}
use Rattle.instructions.specs.Kinds.{kinds}
use Rattle.instructions.proofs.ColumnLaws.{column-at}
use Rattle.instructions.proofs.fixed_at.Statement.{statement}
use Rattle.instructions.proofs.fixed_at.Tie as tie

cast-result : tie.Need-overflow_cast-result
unfolding kinds
cast-result c = record { sfits = ltb-true _ (2 ^ 31) (column-at (λ r. nat_abs r.fixed) (λ x. ltb x (2 ^ 31)) (λ r. true) 0 refl c.args.k c.requires) }

returns : tie.Need-returns
unfolding kinds
returns c = column-at (λ r. nat_abs r.fixed) (to_z w32) (λ r. r.fixed) 0 refl c.args.k c.requires

pub fixed_at_spec : {M : Type 1} → statement M
fixed_at_spec = tie.close (tie.spec (λ c. search rules) cast-result returns)
