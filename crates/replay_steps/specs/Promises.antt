-- What a replay says, as statements. `proofs/Theorems` proves each by its name. (document 02, §4)
use Rattle.std.specs.Prelude.{◌+◌, ◌≤◌, ◌<◌, ◌∷◌, ◌≡◌}
use Rattle.refusals.specs.Library.{ℕ, ℤ, length, get_or, take, true, false, List, []}
use Rattle.bound_theory.specs.Terms.{Report, accepted, bound, begin, after, Allowed, State, Code, Cellwise}
use Rattle.replay_trace.specs.Traces.{Entry}
use Rattle.replay_steps.specs.Replay.{agrees, agreed, differed, replay}

-- what stands past the last line
abbrev pub no_entry : Entry
no_entry = record { at = 0; cycles = 0 }

-- line k + 2 agrees with step k + 1, the one that the run after k steps is at
abbrev pub Agrees : Code → State → List ℤ → List Entry → ℕ → Type 0
Agrees c s answers es k = agrees c (after c k (begin s answers)) (get_or es k no_entry) ≡ true

-- `AGREES` exactly where every line does
abbrev pub AgreesWhere : Type 0
AgreesWhere =
    (c : Code) (s : State) (answers : List ℤ) (es : List Entry) →
    (replay c s answers es ≡ agreed → (k : ℕ) → k < length es → Agrees c s answers es k)
    × (((k : ℕ) → k < length es → Agrees c s answers es k) → replay c s answers es ≡ agreed)

-- line k + 2 is the first that does not agree
pub record FirstDiffers (c : Code) (s : State) (answers : List ℤ) (es : List Entry) (k : ℕ) : Type 0 where
  pub there : k < length es
  pub before : (j : ℕ) → j < k → Agrees c s answers es j
  pub differs : agrees c (after c k (begin s answers)) (get_or es k no_entry) ≡ false

-- `DIFFERS n` exactly where line n is the first that does not
abbrev pub DiffersWhere : Type 0
DiffersWhere =
    (c : Code) (s : State) (answers : List ℤ) (es : List Entry) →
    ((n : ℕ) → replay c s answers es ≡ differed n → (k : ℕ) × (n ≡ k + 2) × FirstDiffers c s answers es k)
    × ((k : ℕ) → FirstDiffers c s answers es k → replay c s answers es ≡ differed (k + 2))

-- the cycles of several lines
unfoldable pub spent : List Entry → ℕ
spent [] = 0
spent (e ∷ es) = e.cycles + spent es

-- "A trace that agrees has spent no more than the run has at that step."
abbrev pub SpentWithin : Type 0
SpentWithin =
    (c : Code) (s : State) (answers : List ℤ) (es : List Entry) → replay c s answers es ≡ agreed →
    (k : ℕ) → k ≤ length es → spent (take k es) ≤ (after c k (begin s answers)).cycles

-- with demand 3: where a bound accepts a start that allows this one, it has spent no more than its CYCLES
abbrev pub SpentWithinBound : Type 0
SpentWithinBound =
    (c : Code) (s : State) (answers : List ℤ) (es : List Entry) → replay c s answers es ≡ agreed →
    (budget : ℕ) (t : State) (q : Report) → bound c budget t ≡ accepted q → Cellwise Allowed s t → spent es ≤ q.cycles
