-- `instructions::operation_at` meets its contract: the column is `map` of the rule over the table, by computation.
-- Assumes nothing.
use Rattle.instructions.specs.Kinds.{kinds}
use Rattle.instructions.specs.HeldColumns.{operation_code, unary_code, binary_code, comparison_code}
use Rattle.instructions.proofs.ColumnLaws.{natural-at}
use borrow.Author.Rules.{rules}
use Rattle.instructions.proofs.operation_at.Statement.{statement}
use Rattle.instructions.proofs.operation_at.Tie as tie

returns : tie.Need-returns
unfolding kinds operation_code unary_code binary_code comparison_code
returns c = natural-at (λ r. operation_code r.operation) c.args.k c.requires

pub operation_at_spec : {M : Type 1} → statement M
operation_at_spec = tie.close (tie.spec (λ c. search rules) returns)
