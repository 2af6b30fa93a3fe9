-- `instructions::argument_codes` meets its contract: the column is `map` of the rule over the table, by computation. Assumes nothing.
use Rattle.instructions.specs.Kinds.{kinds}
use Rattle.instructions.specs.HeldColumns.{argument_code}
use Rattle.instructions.proofs.ColumnLaws.{natural-at}
use Rattle.instructions.proofs.argument_codes.Statement.{statement}
use Rattle.instructions.proofs.argument_codes.Tie as tie

returns : tie.Need-returns
unfolding kinds argument_code
returns c = record { at_kind = natural-at (λ r. argument_code r.argument) }

pub argument_codes_spec : {M : Type 1} → statement M
argument_codes_spec = tie.close (tie.spec returns)
