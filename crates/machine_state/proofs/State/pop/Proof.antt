-- `machine_state::State::pop` meets its contract. Assumes nothing.
use borrow.Author.Rules.{rules}
use Rattle.machine_state.proofs.StateLaws.{pop-is}
use Rattle.machine_state.proofs.State.pop.Statement.{statement}
use Rattle.machine_state.proofs.State.pop.Tie as tie

returns : tie.Need-returns
returns c = let start = c in (pop-is start.args.self start.requires.0 start.args.n start.requires.1, record { free = start.requires.1; places = start.requires.0.places })

pub pop_spec : {M : Type 1} → statement M
pop_spec = tie.close (tie.spec (λ c. search rules) returns)
