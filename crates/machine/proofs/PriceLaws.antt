-- Every way of a step costs the price of its instruction, or the extra more; and the taken way of an unknown branch costs the extra more
-- than the other. Assumes nothing.
use mathlib.Core.Path.{◌≡◌, refl}
use Prim.Native.Nat.{ℕ, ◌≤◌}
use native.Mathlib.Omega.{arith}
use lib.IntN.{ℤ}
use Rattle.cells.specs.Try.{Try, stuck, done, ◌>>=◌}
use Rattle.cells.specs.declared.Cell.{Cell}
use Rattle.cells.specs.Cells.{condition}
use Rattle.cells.specs.declared.Condition.{Condition}
use Rattle.cells.specs.declared.Condition.TheVariants.{IsZero, IsNonzero, IsUnknown}
use Rattle.instructions.specs.declared.Operation.{Operation}
use Rattle.instructions.specs.declared.Operation.TheVariants.{Nothing, Access, Drop, Assign, Constant, GetField, SetField, Branch, BranchIf, BranchIfNot, Call, Stop, Alter, Combine}
use Rattle.machine.specs.Machine.{index, State, Price, Instruction, Code, fetch, Next, stops, goes, opens, ahead, with_extra, ways, opposite, perform, prepare, execute, step}

-- a price of at most c cycles and w words
pub record AtMost (c w : ℕ) (p : Price) : Type 0 where
  pub cycles : p.cycles ≤ c
  pub words : p.words ≤ w

-- P holds of the prices of what a step leads to; the taken way of a branch has an extra
pub data Priced (P : Price → Type 0) : Try Next → Type 0 where
  is_stuck : Priced P stuck
  stops_at : {p : Price} → P p → Priced P (done (stops p))
  goes_at : {p : Price} {t : State} → P p → Priced P (done (goes p t))
  opens_at : {p q : Price} {t u : State} (x : ℕ) → q ≡ with_extra x p → P p → P q → Priced P (done (opens p t q u))

module _ (P : Price → Type 0) where
  -- of an instruction's price, without its extra and with it
  abbrev pub Both : Price → ℕ → Type 0
  Both p x = P p × P (with_extra x p)

  then : {A : Type 0} (m : Try A) {f : A → Try Next} → ((a : A) → m ≡ done a → Priced P (f a)) → Priced P (m >>= f)
  unfolding ◌>>=◌
  then stuck h = is_stuck
  then (done a) h = h a refl

  ahead-price : (p : Price) → P p → (m : Try State) → Priced P (ahead p m)
  unfolding ahead
  ahead-price p h m = then m (λ s e. goes_at h)

  ways-price : (p : Price) (x : ℕ) → Both p x → (a : ℕ) (s : State) (c : Condition) → Priced P (done (ways p x a s c))
  unfolding ways
  ways-price p x h a s IsZero = goes_at h.0
  ways-price p x h a s IsNonzero = goes_at h.1
  ways-price p x h a s IsUnknown = opens_at x refl h.0 h.1

  perform-price : (p : Price) (x : ℕ) → Both p x → (r : Cell) (o : Operation) (i : ℤ) (s : State) → Priced P (perform p x r o i s)
  unfolding perform
  perform-price p x h r Nothing i s = ahead-price p h.0 _
  perform-price p x h r Access i s = ahead-price p h.0 _
  perform-price p x h r Drop i s = ahead-price p h.0 _
  perform-price p x h r Assign i s = ahead-price p h.0 _
  perform-price p x h r Constant i s = ahead-price p h.0 _
  perform-price p x h r (Alter u) i s = ahead-price p h.0 _
  perform-price p x h r (Combine b) i s = ahead-price p h.0 _
  perform-price p x h r GetField i s = ahead-price p h.0 _
  perform-price p x h r SetField i s = ahead-price p h.0 _
  perform-price p x h r Branch i s = goes_at h.0
  perform-price p x h r BranchIf i s = then (condition s.accu) (λ c e. ways-price p x h (index i) s c)
  perform-price p x h r BranchIfNot i s = then (condition s.accu) (λ c e. ways-price p x h (index i) s (opposite c))
  perform-price p x h r Call i s = ahead-price p h.0 _
  perform-price p x h r Stop i s = stops_at h.0

  pub step-price : (c : Code) → ((a : ℕ) (i : Instruction) → fetch c a ≡ done i → Both i.price i.extra) → (r : Cell) (s : State) → Priced P (step c r s)
  unfolding step execute
  step-price c h r s =
      then (fetch c s.at) (λ i e.
      then (prepare i.pushes s) (λ t g.
      perform-price i.price i.extra (h s.at i e) r i.operation i.operand t))

-- the taken way costs some extra more
extra-of : {P : Price → Type 0} {m : Try Next} {p q : Price} {t u : State} → m ≡ done (opens p t q u) → Priced P m → (x : ℕ) × (q ≡ with_extra x p)
extra-of e is_stuck = let z : ◌≡◌ {A = ℕ} 0 1 = cc in absurd (omega arith)
extra-of e (stops_at h) = let z : ◌≡◌ {A = ℕ} 0 1 = cc in absurd (omega arith)
extra-of e (goes_at h) = let z : ◌≡◌ {A = ℕ} 0 1 = cc in absurd (omega arith)
extra-of {p} {q} e (opens_at x f h k) = (x, cc)

pub opening-price : (c : Code) (r : Cell) (s : State) {p q : Price} {t u : State} → step c r s ≡ done (opens p t q u) → (x : ℕ) × (q ≡ with_extra x p)
opening-price c r s e = extra-of e (step-price (λ p. Unit {0}) c (λ a i f. (tt, tt)) r s)
