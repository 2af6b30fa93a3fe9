-- The walk along a path: the steps from a state, with a decision at each unknown branch.
use Rattle.std.specs.Prelude.{◌∷◌}
use Rattle.refusals.specs.Library.{ℕ, zero, suc, List, []}
use Rattle.bound_theory.specs.Terms.{Decision, N, T, Move, move, Try, done, stuck, State, Next, stops, goes, opens}

-- the moves from s by the decisions ds, by what the step from s leads to; `below` gives those after it. A walk ends with STOP; it ends too
-- before a stuck step, and before an unknown branch with no decision left
unfoldable pub onward : (List Decision → State → List Move) → List Decision → State → Try Next → List Move
onward below ds s stuck = []
onward below ds s (done (stops p)) = move s p [] ∷ []
onward below ds s (done (goes p t)) = move s p [] ∷ below ds t
onward below [] s (done (opens p t q u)) = []
onward below (N ∷ ds) s (done (opens p t q u)) = move s p (N ∷ []) ∷ below ds t
onward below (T ∷ ds) s (done (opens p t q u)) = move s q (T ∷ []) ∷ below ds u

-- the first moves of it, at most so many
unfoldable pub follow : (State → Try Next) → ℕ → List Decision → State → List Move
follow act zero ds s = []
follow act (suc most) ds s = onward (follow act most) ds s (act s)
