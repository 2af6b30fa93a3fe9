-- What is promised of the merging bound, as statements. The file Theorems in proofs/ proves each by its name. (document 02 §9)
use Rattle.std.specs.Prelude.{◌≤◌, ◌⊎◌, ◌↔◌, ◌≡◌}
use Rattle.refusals.specs.Library.{ℕ, ℤ, List, []}
use Rattle.bound_theory.specs.Terms.{Refusal, number, Report, accepted, refused, bound, Move, cost, word_sum, CostMax, run, unknown, Allowed, State, Code, Price, step}
use Rattle.bound_theory.specs.Terms.{height, Cellwise, Forward}
use Rattle.machine.specs.Targets.{Closed}
use Rattle.bound_theory.specs.Traces.{Trace, Path}
use Rattle.bound_theory.specs.Promises.{NoGreater, Interruptible, Monotone, LargestOver}
use Rattle.merge_theory.specs.Merge.{Arrival, empty, unlike, held, slot, Table, span, merged}
use Rattle.merge_theory.specs.Ways.{table, Among, Together, Unlike, MergedPath, Arrives, Fault, FirstFault, LargestMerged, count}

-- what holds of all code that passes refusals 6 and 13
abbrev pub OfSinglePass : (Code → Type 0) → Type 0
OfSinglePass P = (c : Code) → Forward c → Closed c → P c

-- Demand 3: "An interrupted run of a routine accepted here has all that the third demand gives, with the afresh bound being this one."
abbrev pub MergedInterruptible : Type 0
MergedInterruptible = OfSinglePass (λ c. Interruptible c (merged c))

-- a run of a start that t allows is, under a BUDGET of at least STEPS, refused by neither 7 nor 9 and within the report's four figures
abbrev pub RunWithinMerged : Type 0
RunWithinMerged =
    OfSinglePass (λ c. (t : State) (q : Report) → merged c t ≡ accepted q → (budget : ℕ) → q.steps ≤ budget →
    (s : State) → Cellwise Allowed s t → (answers : List ℤ) → (r : Report) × (run c budget s answers ≡ accepted r) × NoGreater r q)

-- knowing more never costs more, of all code
abbrev pub MergedMonotone : Type 0
MergedMonotone = (c : Code) → Monotone (merged c)

-- the second report is in cycles, words and depth not the smaller
pub record NotSmaller (first second : Report) : Type 0 where
  pub cycles : first.cycles ≤ second.cycles
  pub words : first.words ≤ second.words
  pub depth : first.depth ≤ second.depth

-- "Where both bounds accept, this one is never the smaller in cycles, words or depth."
abbrev pub MergedNotSmaller : Type 0
MergedNotSmaller = OfSinglePass (λ c. (budget : ℕ) (s : State) (r q : Report) → bound c budget s ≡ accepted r → merged c s ≡ accepted q → NotSmaller r q)

-- where this one accepts, the first is refused by 8 or 9 if at all, and never by 7
abbrev pub RefusedForSize : Type 0
RefusedForSize =
    OfSinglePass (λ c. (budget : ℕ) (s : State) (q : Report) (r : Refusal) → merged c s ≡ accepted q → bound c budget s ≡ refused r → (number r ≡ 8) ⊎ (number r ≡ 9))

-- what a report of this bound is to the paths of the machine, with openings without limit: so it is too where the first bound is refused by
-- 8 or 9
pub record CoversPaths (c : Code) (s : State) (reported : Report) : Type 0 where
  -- Definition 5 has a value from the start, and CYCLES is not below it
  pub maximum : ℕ
  pub costs : CostMax (step c unknown) s maximum
  pub cycles : (k : ℕ) → CostMax (step c unknown) s k → k ≤ reported.cycles
  -- no path costs more cycles or more words, and no trace comes to a higher stack
  pub paths : (moves : List Move) → Path (step c unknown) s moves → cost moves ≤ reported.cycles
  pub words : (moves : List Move) → Path (step c unknown) s moves → word_sum moves ≤ reported.words
  pub depth : (moves : List Move) (t : State) → Trace (step c unknown) s moves t → height t ≤ reported.depth

abbrev pub MergedCoversPaths : Type 0
MergedCoversPaths = OfSinglePass (λ c. (s : State) (q : Report) → merged c s ≡ accepted q → CoversPaths c s q)

-- a table holds what comes to each address from the start s on
pub record Gathered (c : Code) (s : State) (came : Table) : Type 0 where
  -- to each address come the start and what the merged states lead to, and nothing else
  pub comes : (a : ℕ) (x : Arrival) → Among x (came a) ↔ ((x.state.at ≡ a) × Arrives (step c unknown) came s x)
  -- "merges the states where ways meet"
  pub merges : (a : ℕ) (m : State) (p : Price) → slot (came a) ≡ held m p → Together (came a) m p
  -- which is not possible where two of them are unlike, and there is nothing where none comes
  pub parts : (a : ℕ) → (slot (came a) ≡ unlike) ↔ ((x : Arrival) × (y : Arrival) × Among x (came a) × Among y (came a) × Unlike x.state y.state)
  pub nothing : (a : ℕ) → (slot (came a) ≡ empty) ↔ (came a ≡ [])

abbrev pub TableGathered : Type 0
TableGathered = OfSinglePass (λ c. (s : State) → Gathered c s (table c s))

-- and there is one only, as far as anything is said of it: the merged states, their sums and where states are unlike
abbrev pub OneTable : Type 0
OneTable = OfSinglePass (λ c. (s : State) (came came' : Table) → Gathered c s came → Gathered c s came' → (a : ℕ) → slot (came a) ≡ slot (came' a))

-- what the merging bound reports from the start s, by the table of what comes
pub record MergedFigures (c : Code) (s : State) (came : Table) (reported : Report) : Type 0 where
  -- "CYCLES and WORDS are the largest sums over the ways that stay open": each is that of some way, and no way has a larger
  pub cycles : LargestOver (MergedPath (step c unknown) came s.at) cost reported.cycles
  pub words : LargestOver (MergedPath (step c unknown) came s.at) word_sum reported.words
  -- "DEPTH is the largest height of the merged states"
  pub depth : LargestMerged (step c unknown) came reported.depth
  -- "STEPS is the number of addresses reached"
  pub steps : count came (span c s) s.at ≡ reported.steps
  -- "PATH is `-`"
  pub path : reported.path ≡ []

abbrev pub MergedExact : Type 0
MergedExact = OfSinglePass (λ c. (s : State) (q : Report) → merged c s ≡ accepted q → MergedFigures c s (table c s) q)

-- "the lowest address with a 14 or a 7 decides", by the table of what comes
abbrev pub Decides : Code → State → Refusal → Type 0
Decides c s r = (came : Table) × Gathered c s came × FirstFault (step c unknown) came r

-- a routine is refused by 14 or 7 at the lowest address with one, and in no other case
abbrev pub MergedRefusedWhere : Type 0
MergedRefusedWhere = OfSinglePass (λ c. (s : State) (r : Refusal) → (merged c s ≡ refused r) ↔ Decides c s r)

abbrev pub MergedAcceptedWhere : Type 0
MergedAcceptedWhere = OfSinglePass (λ c. (s : State) → ((q : Report) × (merged c s ≡ accepted q)) ↔ ((a : ℕ) (r : Refusal) → Fault (step c unknown) (table c s) a r → ⊥))
