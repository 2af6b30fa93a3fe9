-- `machine_state::State::jump` meets its contract. Assumes nothing.
use mathlib.Core.Path.{refl}
use Rattle.machine.specs.Machine.{jump}
use Rattle.machine_state.proofs.State.jump.Statement.{statement}
use Rattle.machine_state.proofs.State.jump.Tie as tie

returns : tie.Need-returns
unfolding jump
returns c = (refl, record { free = c.requires.free; places = c.requires.places })

pub jump_spec : {M : Type 1} → statement M
jump_spec = tie.close (tie.spec returns)
