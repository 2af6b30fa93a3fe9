-- `file_check::is_priced` meets its contract. Assumes nothing.
use Rattle.file_check.proofs.ArmLaws.{never}
use borrow.Author.Rules.{rules}
use Rattle.file_check.proofs.is_priced.Statement.{statement}
use Rattle.file_check.proofs.is_priced.Tie as tie

returns-2 : tie.Need-returns
returns-2 c = (λ e. never c.args.due c.if-due.false e, c.requires.1)

pub is_priced_spec : {M : Type 1} → statement M
is_priced_spec = tie.close (tie.spec (λ c κs. search rules) (λ c. search rules) returns-2)
