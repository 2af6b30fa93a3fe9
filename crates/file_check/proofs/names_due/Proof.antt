-- `file_check::names_due` meets its contract. Assumes nothing.
use Rattle.file_check.proofs.ArmLaws.{never}
use borrow.Author.Rules.{rules}
use Rattle.file_check.proofs.names_due.Statement.{statement}
use Rattle.file_check.proofs.names_due.Tie as tie

returns-2 : tie.Need-returns
returns-2 c = λ e. never c.args.due c.if-due.false e

pub names_due_spec : {M : Type 1} → statement M
names_due_spec = tie.close (tie.spec (λ c. search rules) (λ c. search rules) returns-2)
