-- `instructions::argument_code_at` meets its contract: the column is `map` of the rule over the table, by computation.
-- Assumes nothing.
use Rattle.instructions.specs.Kinds.{kinds}
use Rattle.instructions.specs.HeldColumns.{argument_code}
use Rattle.instructions.proofs.ColumnLaws.{natural-at}
use borrow.Author.Rules.{rules}
use Rattle.instructions.proofs.argument_code_at.Statement.{statement}
use Rattle.instructions.proofs.argument_code_at.Tie as tie

returns : tie.Need-returns
unfolding kinds argument_code
returns c = natural-at (λ r. argument_code r.argument) c.args.k c.requires

pub argument_code_at_spec : {M : Type 1} → statement M
argument_code_at_spec = tie.close (tie.spec (λ c. search rules) returns)
