-- `instructions::pushes_at` meets its contract: the column is `map` of the rule over the table, by computation.
-- Assumes nothing.
use mathlib.Core.Path.{refl}
use mathlib.Core.Bool.{cond}
use lib.Dec.{eqb}
use Rattle.instructions.specs.Kinds.{kinds}
use Rattle.instructions.proofs.ColumnLaws.{column-at}
use borrow.Author.Rules.{rules}
use Rattle.instructions.proofs.pushes_at.Statement.{statement}
use Rattle.instructions.proofs.pushes_at.Tie as tie

returns : tie.Need-returns
unfolding kinds
returns c = column-at (λ r. cond r.pushes 1 0) (λ x. eqb x 1) (λ r. r.pushes) 0 refl c.args.k c.requires

pub pushes_at_spec : {M : Type 1} → statement M
pushes_at_spec = tie.close (tie.spec (λ c. search rules) returns)
