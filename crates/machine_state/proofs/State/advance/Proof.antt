-- `machine_state::State::advance` meets its contract. Assumes nothing.
use native.Mathlib.Numerals.{add-one}
use Rattle.machine.specs.Machine.{advance, jump}
use borrow.Author.Rules.{rules}
use Rattle.machine_state.proofs.State.advance.Statement.{statement}
use Rattle.machine_state.proofs.State.advance.Tie as tie

returns : tie.Need-returns
unfolding advance jump
returns c = (simp add-one, record { free = c.requires.0.free; places = c.requires.0.places })

pub advance_spec : {M : Type 1} → statement M
advance_spec = tie.close (tie.spec (λ c. search rules) returns)
