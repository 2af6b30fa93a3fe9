-- `machine_state::State::push` meets its contract. Assumes nothing.
use borrow.Author.Rules.{rules}
use Rattle.machine_state.proofs.StateLaws.{push-is, push-formed}
use Rattle.machine_state.proofs.State.push.Statement.{statement}
use Rattle.machine_state.proofs.State.push.Tie as tie

returns : tie.Need-returns
returns c = let start = c in (push-is start.args.self start.requires.0 start.requires.1, push-formed start.args.self start.requires.0 start.requires.1)

pub push_spec : {M : Type 1} → statement M
push_spec = tie.close (tie.spec (λ c. search rules) (λ c. search rules) (λ c. search rules) returns)
