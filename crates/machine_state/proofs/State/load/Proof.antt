-- `machine_state::State::load` meets its contract. Assumes nothing.
use mathlib.Core.Path.{refl}
use Rattle.machine.specs.Machine.{load}
use Rattle.machine_state.proofs.State.load.Statement.{statement}
use Rattle.machine_state.proofs.State.load.Tie as tie

returns : tie.Need-returns
unfolding load
returns c = (refl, record { free = c.requires.free; places = c.requires.places })

pub load_spec : {M : Type 1} → statement M
load_spec = tie.close (tie.spec returns)
