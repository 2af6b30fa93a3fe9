-- What is promised of the step, as statements. The file Theorems in proofs/ proves each by its name.
use Rattle.std.specs.Prelude.{◌<◌, ◌≡◌}
use Rattle.refusals.specs.Library.{ℕ, ℤ, pos}
use Rattle.machine.specs.Terms.{done, Cell, unknown, range, Allowed, Refines, State, Code, Price, opens, step, Cellwise}
use Rattle.cells.specs.Covering.{Covered}
use Rattle.cells.specs.Promises.{Of}
use Rattle.machine.specs.Covering.{NextCovered}

-- the order in which a state knows more is one
abbrev pub OrderReflexive : Type 0
OrderReflexive = (s : State) → Cellwise Refines s s

abbrev pub OrderTransitive : Type 0
OrderTransitive = (s t u : State) → Cellwise Refines s t → Cellwise Refines t u → Cellwise Refines s u

-- "Cells that agree must still give results that agree, for users who leave the numbers unknown." (document 02 §3): where the step from t is not
-- stuck, neither is that from a state that refines t, and what they lead to is related
abbrev pub StepRefines : Type 0
StepRefines = (c : Code) (s t : State) → Cellwise Refines s t → Covered (NextCovered (Cellwise Refines) (Unit {0})) (step c unknown s) (step c unknown t)

-- the same for a plain state that t allows and an answer that an unknown allows; the plain state never opens two ways
abbrev pub StepPlain : Type 0
StepPlain = (c : Code) (a : Cell) (s t : State) → Allowed a unknown → Cellwise Allowed s t → Covered (NextCovered (Cellwise Allowed) ⊥) (step c a s) (step c unknown t)

-- "A condition whose range lacks 0, or is only 0, opens no second way." (document 02 §12): where two open, the accumulator has 0 and more
abbrev pub OpensWhere : Type 0
OpensWhere =
    (c : Code) (r : Cell) (s t u : State) (p q : Price) → step c r s ≡ done (opens p t q u) →
    (low : ℤ) × (more : ℕ) × (s.accu ≡ range low more) × Of (pos 0) low more × (0 < more)
