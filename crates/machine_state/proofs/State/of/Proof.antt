-- `machine_state::State::of` meets its contract. Assumes nothing.
use mathlib.Core.Path.{ap}
use borrow.Author.Rules.{rules}
use Rattle.machine_state.specs.HeldRegisters.{loaded, with_stack}
use Rattle.machine_state.proofs.State.of.Statement.{statement}
use Rattle.machine_state.proofs.State.of.Tie as tie

returns : tie.Need-returns
returns c = ap (λ a. with_stack (loaded a c.args.registers) c.args.stack) c.same-accu.ensures

pub of_spec : {M : Type 1} → statement M
of_spec = tie.close (tie.spec (λ c κs. search rules) returns)
