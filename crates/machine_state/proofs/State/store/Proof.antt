-- `machine_state::State::store` meets its contract. Assumes nothing.
use mathlib.Core.Path.{ap, ◌∙◌}
use Rattle.cells.specs.Try.{done}
use Rattle.machine_state.specs.HeldState.{view}
use borrow.Author.Rules.{rules}
use Rattle.machine_state.proofs.StateLaws.{stored, store_is, store-formed}
use Rattle.machine_state.proofs.State.store.Statement.{statement}
use Rattle.machine_state.proofs.State.store.Tie as tie

returns : tie.Need-returns
returns c =
    let start = c in
    let s = start.args.self in
    let formed = store-formed s start.requires.0 start.args.n in (
      ap (λ a. done (view (record { at = s.at; accu = a; free = s.free; stack = (stored start.args.n s).stack }))) c.exactly-zero.ensures ∙ store_is s start.requires.0 start.args.n start.requires.1,
      record { free = formed.free; places = formed.places },
    )

pub store_spec : {M : Type 1} → statement M
store_spec = tie.close (tie.spec (λ c. search rules) (λ c. search rules) (λ c. search rules) (λ c κs. search rules) returns)
