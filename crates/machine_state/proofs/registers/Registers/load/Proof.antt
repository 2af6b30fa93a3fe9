-- `machine_state::registers::Registers::load` meets its contract. Assumes nothing.
use mathlib.Core.Path.{ap}
use borrow.Author.Rules.{rules}
use Rattle.machine_state.specs.HeldRegisters.{loaded}
use Rattle.machine_state.proofs.registers.Registers.load.Statement.{statement}
use Rattle.machine_state.proofs.registers.Registers.load.Tie as tie

returns : tie.Need-returns
returns c = ap (λ a. loaded a c.args.self) c.same-accu.ensures

pub load_spec : {M : Type 1} → statement M
load_spec = tie.close (tie.spec (λ c κs. search rules) returns)
