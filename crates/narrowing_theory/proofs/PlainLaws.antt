-- A step from a plain state that calls no primitive: it is the same whatever a call would be answered, opens no second way and leads to a
-- plain state. Assumes nothing.
use mathlib.Core.Path.{◌≡◌, refl, subst}
use Prim.Native.Nat.{ℕ}
use native.Mathlib.Omega.{arith}
use lib.IntN.{ℤ}
use Rattle.cells.specs.Try.{Try, stuck, done, ◌>>=◌}
use Rattle.cells.specs.declared.Cell.{Cell}
use Rattle.cells.specs.Order.{Allowed}
use Rattle.cells.specs.Covering.{Covered, by_stuck, both}
use Rattle.cells.proofs.CellLaws.{allowed-lawful, allowed-plain}
use Rattle.instructions.specs.declared.Operation.{Operation}
use Rattle.instructions.specs.declared.Operation.TheVariants.{Nothing, Access, Drop, Assign, Constant, GetField, SetField, Branch, BranchIf, BranchIfNot, Call, Stop, Alter, Combine}
use Rattle.machine.specs.Machine.{State, Price, Code, fetch, Next, stops, goes, perform, prepare, execute, step}
use Rattle.machine.specs.Order.{Cellwise}
use Rattle.machine.specs.Covering.{NextCovered, stops_too, goes_too, opens_too, goes_not_taken, goes_taken}
use Rattle.machine.proofs.StepLaws.{step-law}
use Rattle.bound_theory.specs.Run.{Run, leads}
use Rattle.bound_theory.proofs.RunLaws.{answered}
use Rattle.narrowing_theory.specs.Promises.{Plain, NoCall}

-- ---- whatever a call would be answered

perform-same : (p : Price) (n : ℕ) (r r' : Cell) (o : Operation) (i : ℤ) (s : State) → (o ≡ Call → ⊥) → perform p n r o i s ≡ perform p n r' o i s
unfolding perform
perform-same p n r r' Nothing i s h = refl
perform-same p n r r' Access i s h = refl
perform-same p n r r' Drop i s h = refl
perform-same p n r r' Assign i s h = refl
perform-same p n r r' Constant i s h = refl
perform-same p n r r' (Alter u) i s h = refl
perform-same p n r r' (Combine b) i s h = refl
perform-same p n r r' GetField i s h = refl
perform-same p n r r' SetField i s h = refl
perform-same p n r r' Branch i s h = refl
perform-same p n r r' BranchIf i s h = refl
perform-same p n r r' BranchIfNot i s h = refl
perform-same p n r r' Call i s h = absurd (h refl)
perform-same p n r r' Stop i s h = refl

-- two actions that go on alike
bind-same : {A B : Type 0} (m : Try A) (f g : A → Try B) → ((a : A) → m ≡ done a → f a ≡ g a) → (m >>= f) ≡ (m >>= g)
unfolding ◌>>=◌
bind-same stuck f g h = refl
bind-same (done a) f g h = h a refl

pub step_same : (c : Code) (r r' : Cell) (s : State) → NoCall c s → step c r s ≡ step c r' s
unfolding step execute
step_same c r r' s h =
    bind-same (fetch c s.at) (λ i. execute r i s) (λ i. execute r' i s) (λ i e.
    bind-same (prepare i.pushes s) (λ t. perform i.price i.extra r i.operation i.operand t) (λ t. perform i.price i.extra r' i.operation i.operand t) (λ t f.
    perform-same i.price i.extra r r' i.operation i.operand t (h i e)))

-- ---- one way

-- a step with at most one way, to a plain state
pub data OneWay : Try Next → Type 0 where
  is_stuck : OneWay stuck
  is_stop : {p : Price} → OneWay (done (stops p))
  goes_on : {p : Price} {t : State} → Plain t → OneWay (done (goes p t))

one_way : {m n : Try Next} → n ≡ m → Covered (NextCovered (Cellwise Allowed) ⊥) m n → OneWay m
one_way e by_stuck = subst OneWay e is_stuck
one_way e (both stops_too) = is_stop
one_way e (both (goes_too {s} {t} r)) = let h : t ≡ s = cc in goes_on (rw h at r)
one_way e (both (opens_too no_way r q)) = absurd no_way
one_way e (both (goes_not_taken r)) = let z : ◌≡◌ {A = ℕ} 0 1 = cc in absurd (omega arith)
one_way e (both (goes_taken r)) = let z : ◌≡◌ {A = ℕ} 0 1 = cc in absurd (omega arith)

-- the step of a run from a plain state
pub plain_step : (c : Code) (r : Run) → Plain r.state → OneWay (leads c r)
unfolding leads
plain_step c r e = one_way refl (step-law allowed-lawful c (allowed-plain (answered r.answers)) e)
