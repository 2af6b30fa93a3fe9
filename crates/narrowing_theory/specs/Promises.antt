-- What is promised of both bounds where a start knows more, and where it knows all. The file Theorems in proofs/ proves each by its name.
-- (document 02 §14)
use Rattle.std.specs.Prelude.{◌≤◌, ◌<◌, ◌⊎◌, ◌↔◌, ◌≡◌}
use Rattle.refusals.specs.Library.{ℕ, ℤ, List}
use Rattle.bound_theory.specs.Terms.{Refusal, Spent, Report, accepted, refused, bound, begin, after, run, done, Cell, Allowed, Refines, Call, State, Code, Instruction}
use Rattle.bound_theory.specs.Terms.{fetch, Cellwise}
use Rattle.bound_theory.specs.Promises.{Monotone}
use Rattle.merge_theory.specs.Merge.{merged}
use Rattle.merge_theory.specs.Promises.{OfSinglePass}

-- the order of cells is what the request says of them: a "allows only values that" b allows
abbrev pub RefinesWhere : Type 0
RefinesWhere = (a b : Cell) → Refines a b ↔ ((v : Cell) → Allowed v a → Allowed v b)

-- "each cell of the first allows only values that the second allows: if the second is accepted, so is the first under the same BUDGET, and its
-- cycles, words, depth and steps are no greater". Of the merging bound: `MergedMonotone` in the crate `merge_theory`.
abbrev pub BoundMonotone : Type 0
BoundMonotone = (c : Code) (budget : ℕ) → Monotone (bound c budget)

-- and a larger BUDGET changes no report
abbrev pub LargerBudget : Type 0
LargerBudget = (c : Code) (budget larger : ℕ) → budget ≤ larger → (s : State) (q : Report) → bound c budget s ≡ accepted q → bound c larger s ≡ accepted q

-- "every cell is a single number or a handle": each allows itself, as a plain cell
abbrev pub Plain : State → Type 0
Plain s = Cellwise Allowed s s

-- the instruction at the address of s, if there is one, is no C_CALL
abbrev pub NoCall : Code → State → Type 0
NoCall c s = (i : Instruction) → fetch c s.at ≡ done i → i.operation ≡ Call → ⊥

-- "no primitive is called" on the path that is walked: at none of the states that the first n steps of the run are made from
abbrev pub NoCalls : Code → ℕ → State → List ℤ → Type 0
NoCalls c n s answers = (k : ℕ) → k < n → NoCall c (after c k (begin s answers)).state

-- "If every cell is a single number or a handle and no primitive is called, the reported cycles are those of the run": so are the words, the
-- depth and the steps, and PATH is `-`; and where one is refused, the other is, by the same number at the same place
abbrev pub BoundIsRun : Type 0
BoundIsRun = (c : Code) (budget : ℕ) (s : State) (answers : List ℤ) → Plain s → NoCalls c budget s answers → bound c budget s ≡ run c budget s answers

-- the same of the merging bound, which takes no BUDGET: a run whose BUDGET is below its STEPS spends it
abbrev pub MergedIsRun : Type 0
MergedIsRun =
    OfSinglePass (λ c. (budget : ℕ) (s : State) (answers : List ℤ) → Plain s → NoCalls c budget s answers →
    ((q : Report) → merged c s ≡ accepted q → q.steps ≤ budget → run c budget s answers ≡ accepted q)
    × ((q : Report) → merged c s ≡ accepted q → budget < q.steps → (a : ℕ) × (run c budget s answers ≡ refused (Spent a)))
    × ((r : Refusal) → merged c s ≡ refused r → (run c budget s answers ≡ refused r) ⊎ ((a : ℕ) × (run c budget s answers ≡ refused (Spent a)))))
