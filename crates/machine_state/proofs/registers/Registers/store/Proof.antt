-- `machine_state::registers::Registers::store` meets its contract. Assumes nothing.
use mathlib.Core.Path.{ap, ◌∙◌}
use borrow.Author.Rules.{rules}
use Rattle.machine_state.specs.HeldRegisters.{loaded}
use Rattle.machine_state.proofs.registers.Registers.store.Statement.{statement}
use Rattle.machine_state.proofs.registers.Registers.store.Tie as tie

returns : tie.Need-returns
returns c = c.load.ensures ∙ ap (λ a. loaded a c.args.self) c.exactly-zero.ensures

pub store_spec : {M : Type 1} → statement M
store_spec = tie.close (tie.spec (λ c κs. search rules) (λ c κs. search rules) returns)
