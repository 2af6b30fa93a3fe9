-- `instructions::calls_at` meets its contract: the column is `map` of the rule over the table, by computation.
-- Assumes nothing.
use mathlib.Core.Path.{refl}
use lib.Dec.{eqb}
use Rattle.instructions.specs.Kinds.{kinds, calls}
use Rattle.instructions.specs.HeldColumns.{argument_code}
use Rattle.instructions.proofs.ColumnLaws.{column-at}
use borrow.Author.Rules.{rules}
use Rattle.instructions.proofs.calls_at.Statement.{statement}
use Rattle.instructions.proofs.calls_at.Tie as tie

returns : tie.Need-returns
unfolding kinds argument_code
returns c = column-at (λ r. argument_code r.argument) (λ x. eqb x 3) (λ r. calls r.argument) 0 refl c.args.k c.requires

pub calls_at_spec : {M : Type 1} → statement M
calls_at_spec = tie.close (tie.spec (λ c. search rules) returns)
