-- What a step of the walk by value stands for.
use Rattle.std.specs.Prelude.{◌<◌, ◌∷◌, ◌≡◌}
use Rattle.refusals.specs.Library.{ℕ, Bool, true, false, cond, List, []}
use Rattle.bound_theory.specs.Terms.{Decision, Move, move, Cell, unknown, State, Code, Price, step}
use Rattle.machine_state.specs.HeldState.{WellFormed, whole}
use Rattle.machine_state.specs.declared.State as states
use Rattle.machine_step.specs.declared.Price as steps
use Rattle.report.specs.HeldPath.{decode}
use Rattle.explain_walk.specs.declared.Walked.{Walked}
use Rattle.explain_walk.specs.Walk.{onward}

-- the price that is told
abbrev pub price_of : Walked → Price
price_of w = record { cycles = w.cycles; words = w.words }

-- a step that is not made, before a state
abbrev pub unmade_walk : ℕ → states.State → List Cell → Walked
unmade_walk path t fs = record { made = false; stops = false; cycles = 0; words = 0; way = 1; rest = path; state = t; blocks = fs }

-- a step that is made at a price, to a state
abbrev pub made_at : Bool → steps.Price → ℕ → ℕ → states.State → List Cell → Walked
made_at stops p way rest t fs = record { made = true; stops = stops; cycles = p.cycles; words = p.words; way = way; rest = rest; state = t; blocks = fs }

-- the moves from s whose first is w: none where it is not made, and it alone where it is STOP; `below` gives those after it
unfoldable pub moves_by : List ℕ → Walked → State → (List Decision → State → List Move) → List Move
moves_by ns w s below = cond w.made (move s (price_of w) (decode w.way) ∷ cond w.stops [] (below (decode w.rest) (whole ns w.blocks w.state))) []

-- w is the first step of the walk by the decisions of `path`
pub record StepsOn (c : Code) (ns : List ℕ) (path : ℕ) (state : states.State) (blocks : List Cell) (w : Walked) : Type 0 where
  pub moves : (below : List Decision → State → List Move) → onward below (decode path) (whole ns blocks state) (step c unknown (whole ns blocks state)) ≡ moves_by ns w (whole ns blocks state) below
  pub formed : WellFormed w.state
  pub cycles : w.cycles < 8589934592
  pub words : w.words < 4294967296
