-- `run_loop::taken_after` meets its contract. Assumes nothing.
use borrow.Author.Rules.{rules}
use Rattle.run_loop.proofs.RunLaws.{takes_one, takes_none}
use Rattle.run_loop.proofs.taken_after.Statement.{statement}
use Rattle.run_loop.proofs.taken_after.Tie as tie

returns : tie.Need-returns-then-calls
returns c = (λ answers. rw c.if-calls.true (takes_one answers c.args.taken), search rules)

returns-2 : tie.Need-returns-else-calls
returns-2 c = (λ answers. rw c.if-calls.false (takes_none _), search rules)

pub taken_after_spec : {M : Type 1} → statement M
taken_after_spec = tie.close (tie.spec (λ c. search rules) returns returns-2)
