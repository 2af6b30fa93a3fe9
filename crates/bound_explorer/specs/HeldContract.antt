-- The explorer's contract, by the names of its parts.
use Rattle.std.specs.Prelude.{◌+◌, ◌*◌, ◌^◌, ◌≤◌, ◌<◌, ◌≡◌}
use Rattle.refusals.specs.Library.{ℕ, ℤ, List}
use Rattle.bound_theory.specs.Terms.{Report, begin, after, Cell, unknown, Allowed, State, Code, step, Cellwise}
use Rattle.machine_state.specs.HeldState.{WellFormed, whole}
use Rattle.machine_state.specs.declared.State as states
use Rattle.bound_theory.specs.Tree.{explore, tree, steps}
use Rattle.bound_theory.specs.Promises.{Safe, Exact}
use Rattle.bound_figures.specs.declared.Found.{Found}
use Rattle.bound_figures.specs.HeldFigures.{accepted_as, Shows, walked}

-- what is asked: the state and the counts within their limits
pub record Explorable (start : states.State) (openings budget : ℕ) : Type 0 where
  pub formed : WellFormed start
  pub budget_fits : budget ≤ 1000000
  pub openings_fit : openings ≤ 32

-- what is promised: the answer shows the verdict of the tree, and the steps walked
pub record Explores (c : Code) (ns : List ℕ) (fs : List Cell) (start : states.State) (openings budget : ℕ) (r : Found) : Type 0 where
  pub shows : Shows r (explore (step c unknown) openings budget (whole ns fs start))
  pub counts : r.used ≡ walked budget (steps (tree (step c unknown) budget openings (whole ns fs start)))

-- Demand 3, of an accepted answer for the start t: any memory that has the file's cells and no others, agrees with each known one and holds
-- some number in each unknown one; it is fed any list of input answers and interrupted after any number of steps
abbrev pub SafeUnder : Code → ℕ → ℕ → State → Found → Type 0
SafeUnder c openings budget t r =
    (q : Report) → r ≡ accepted_as q → (s : State) → Cellwise Allowed s t → (answers : List ℤ) (n : ℕ) → Safe c (explore (step c unknown) openings budget) q (begin s answers) n (after c n (begin s answers))

-- Demand 2, of an accepted answer for the start t
abbrev pub ExactFor : Code → ℕ → State → Found → Type 0
ExactFor c openings t r = (q : Report) → r ≡ accepted_as q → Exact c openings t q

-- the answer's numbers are within what the code's numbers hold
pub record Bounded (openings budget : ℕ) (r : Found) : Type 0 where
  pub used : r.used ≤ budget
  pub cycles : r.cycles ≤ 8589934592 * r.used
  pub words : r.words ≤ 4294967296 * r.used
  pub path : r.path < 2 ^ (openings + 1)
