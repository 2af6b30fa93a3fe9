-- What is promised of the bound by cases, as statements. `proofs/Theorems` proves each by its name.
use Rattle.std.specs.Prelude.{◌∷◌, ◌↔◌, ◌≡◌}
use Rattle.refusals.specs.Library.{ℕ, true, false, List, []}
use Rattle.bound_theory.specs.Terms.{Refusal, Report, accepted, refused, Allowed, State, Code, Cellwise}
use Rattle.bound_theory.specs.Promises.{NoGreater, Interruptible, Monotone}
use Rattle.merge_theory.specs.Merge.{merged}
use Rattle.merge_theory.specs.Promises.{OfSinglePass, Decides}
use Rattle.split_theory.specs.Split.{divides, below, from, Cut, split, Case}

-- Demand 3, with the afresh bound being this one, by the same cuts
abbrev pub SplitInterruptible : Type 0
SplitInterruptible = OfSinglePass (λ c. (cuts : List Cut) → Interruptible c (split c cuts))

-- where merging accepts, cases accept, and no figure is greater
abbrev pub SplitNotAbove : Type 0
SplitNotAbove = (c : Code) (cuts : List Cut) (s : State) (q : Report) → merged c s ≡ accepted q → (r : Report) × (split c cuts s ≡ accepted r) × NoGreater r q

-- knowing more never costs more, by the same cuts
abbrev pub SplitMonotone : Type 0
SplitMonotone = (c : Code) (cuts : List Cut) → Monotone (split c cuts)

-- x is one of the cuts
pub data Among (x : Cut) : List Cut → Type 0 where
  first : {xs : List Cut} → Among x (x ∷ xs)
  later : {y : Cut} {xs : List Cut} → Among x xs → Among x (y ∷ xs)

-- the same of any cuts that have these among them, in any order and however often: so the figures depend on which cuts there are alone
abbrev pub SplitAmong : Type 0
SplitAmong =
    (c : Code) (cuts all : List Cut) → ((x : Cut) → Among x cuts → Among x all) → (s : State) (q : Report) → split c cuts s ≡ accepted q →
    (r : Report) × (split c all s ≡ accepted r) × NoGreater r q

-- every plain start is in one case, and in no other
abbrev pub SplitCases : Type 0
SplitCases =
    (cuts : List Cut) (s t : State) → Cellwise Allowed t s →
    (u : State) × Case cuts s u × Cellwise Allowed t u × ((w : State) → Case cuts s w → Cellwise Allowed t w → w ≡ u)

-- a figure f of the report is that of the merging bound of some case
abbrev pub Attained : Code → List Cut → State → (Report → ℕ) → ℕ → Type 0
Attained c cuts s f n = (u : State) × Case cuts s u × ((r : Report) × (merged c u ≡ accepted r) × (f r ≡ n))

-- what is reported: the largest figures of the cases
pub record SplitFigures (c : Code) (cuts : List Cut) (s : State) (reported : Report) : Type 0 where
  pub within : (u : State) → Case cuts s u → (r : Report) × (merged c u ≡ accepted r) × NoGreater r reported
  pub cycles : Attained c cuts s (λ r. r.cycles) reported.cycles
  pub words : Attained c cuts s (λ r. r.words) reported.words
  pub depth : Attained c cuts s (λ r. r.depth) reported.depth
  pub steps : Attained c cuts s (λ r. r.steps) reported.steps

abbrev pub SplitExact : Type 0
SplitExact = (c : Code) (cuts : List Cut) (s : State) (q : Report) → split c cuts s ≡ accepted q → SplitFigures c cuts s q

-- refused where a case is, and as it is
abbrev pub SplitRefused : Type 0
SplitRefused = (c : Code) (cuts : List Cut) (s : State) (x : Refusal) → split c cuts s ≡ refused x → (u : State) × Case cuts s u × (merged c u ≡ refused x)

-- "or the refusal of the first that is refused, the numbers below first": every case before has no address with a 14 or a 7
pub data FirstRefused (c : Code) (r : Refusal) : List Cut → State → Type 0 where
  no_cut : {s : State} → Decides c s r → FirstRefused c r [] s
  not_divided : {x : Cut} {xs : List Cut} {s : State} → divides x.place x.number s ≡ false → FirstRefused c r xs s → FirstRefused c r (x ∷ xs) s
  below_first : {x : Cut} {xs : List Cut} {s : State} → divides x.place x.number s ≡ true → FirstRefused c r xs (below x.place x.number s) → FirstRefused c r (x ∷ xs) s
  then_from : {x : Cut} {xs : List Cut} {s : State} → divides x.place x.number s ≡ true →
      ((u : State) → Case xs (below x.place x.number s) u → (y : Refusal) → Decides c u y → ⊥) →
      FirstRefused c r xs (from x.place x.number s) → FirstRefused c r (x ∷ xs) s

-- refused by the 14 or 7 of that case, and in no other case
abbrev pub SplitRefusedWhere : Type 0
SplitRefusedWhere = OfSinglePass (λ c. (cuts : List Cut) (s : State) (r : Refusal) → (split c cuts s ≡ refused r) ↔ FirstRefused c r cuts s)
