-- `machine_state::State::registers` meets its contract. Assumes nothing.
use mathlib.Core.Path.{ap}
use borrow.Author.Rules.{rules}
use Rattle.machine_state.specs.HeldRegisters.{registers_of, loaded}
use Rattle.machine_state.proofs.State.registers.Statement.{statement}
use Rattle.machine_state.proofs.State.registers.Tie as tie

returns : tie.Need-returns
returns c = ap (λ a. loaded a (registers_of c.args.self)) c.same-accu.ensures

pub registers_spec : {M : Type 1} → statement M
registers_spec = tie.close (tie.spec (λ c κs. search rules) returns)
