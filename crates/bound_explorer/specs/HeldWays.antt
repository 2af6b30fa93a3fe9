-- What the two ways of an unknown branch come to.
use Rattle.std.specs.Prelude.{◌+◌, ◌-◌, ◌<◌, ◌≡◌, Ok}
use Rattle.refusals.specs.Library.{ℕ, List}
use Rattle.bound_theory.specs.Terms.{Openings, Cell, Code}
use Rattle.machine.specs.Machine.{index}
use Rattle.machine_state.specs.declared.State.{State}
use Rattle.machine_state.specs.declared.code.Line.{Line}
use Rattle.bound_figures.specs.HeldFigures.{refused_as}
use Rattle.bound_explorer.specs.declared.Ways.{Ways}
use Rattle.bound_explorer.specs.HeldContract.{Explores, Bounded}

-- a state at another address
abbrev pub placed : ℕ → State → State
placed a s = record { at = a; accu = s.accu; free = s.free; stack = s.stack }

-- the ways of the branch l at s: a branch past the limit where no opening is left; the one not taken; and where that is accepted, the one
-- taken, with what is left of the budget
pub record WaysExplored (c : Code) (ns : List ℕ) (l : Line) (fs : List Cell) (s : State) (openings left : ℕ) (r : Ways) : Type 0 where
  pub over : openings ≡ 0 → r.untaken ≡ refused_as (Openings s.at) 0
  pub first : 0 < openings → Explores c ns fs (placed (s.at + 1) s) (openings - 1) left r.untaken
  pub second : 0 < openings → r.untaken.verdict ≡ Ok tt → Explores c ns fs (placed (index l.operand) s) (openings - 1) (left - r.untaken.used) r.taken
  pub first_bounded : Bounded (openings - 1) left r.untaken
  pub second_bounded : Bounded (openings - 1) (left - r.untaken.used) r.taken
