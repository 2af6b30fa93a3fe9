-- `instructions::opcode_at` meets its contract: the column is `map` of the rule over the table, by computation, and so is that each
-- entry fits. Assumes nothing.
use mathlib.Core.Path.{refl}
use mathlib.Core.Bool.{true}
use lib.Dec.{ltb}
use Prim.Native.Nat.{◌^◌}
use borrow.Author.Rules.{rules}
use borrow.Author.Tests.{ltb-true}
use Rattle.instructions.specs.Kinds.{kinds}
use Rattle.instructions.proofs.ColumnLaws.{column-at, natural-at}
use Rattle.instructions.proofs.opcode_at.Statement.{statement}
use Rattle.instructions.proofs.opcode_at.Tie as tie

cast-result : tie.Need-overflow_cast-result
unfolding kinds
cast-result c = record { fits = ltb-true _ (2 ^ 32) (column-at (λ r. r.opcode) (λ x. ltb x (2 ^ 32)) (λ r. true) 0 refl c.args.k c.requires) }

returns : tie.Need-returns
unfolding kinds
returns c = natural-at (λ r. r.opcode) c.args.k c.requires

pub opcode_at_spec : {M : Type 1} → statement M
opcode_at_spec = tie.close (tie.spec (λ c. search rules) cast-result returns)
