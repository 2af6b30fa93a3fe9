-- What the operation of a code is, for the functions over codes. Assumes nothing.
use mathlib.Core.Path.{◌≡◌, refl, sym, ap, ◌∙◌}
use mathlib.Core.Bool.{Bool, true, false, cond}
use mathlib.Core.List.{List, [], ◌∷◌}
use mathlib.Core.Logic.{⊎_elim}
use Prim.Native.Nat.{ℕ, zero, suc, ◌+◌, ◌-◌, ◌≤◌, ◌<◌}
use native.Mathlib.Nat.{eq-or-lt_of_le}
use native.Mathlib.Omega.{arith}
use lib.Dec.{eqb, ltb}
use lib.ListN.{get_or, get_or-eq_default}
use borrow.Author.Tests.{ltb-true, ltb-false, ne_eqb}
use Rattle.numbers.specs.declared.Comparison.TheVariants.{Equal, Unequal, Less, AtMost, Greater, AtLeast}
use Rattle.cells.specs.declared.Binary.{Binary}
use Rattle.cells.specs.declared.Binary.TheVariants.{Add, Subtract, Compare}
use Rattle.instructions.specs.declared.Operation.TheVariants.{Stop, Combine}
use Rattle.instructions.specs.HeldColumns.{operations, operation_of}
use Rattle.machine_outcome.specs.HeldOutcome.{is_on_cells, entry_of, drops}

-- the values below b, from the last to the first
row : {A : Type 0} → (ℕ → A) → ℕ → List A
row f zero = []
row f (suc b) = f b ∷ row f b

-- two functions with one row are equal there
agree : {A : Type 0} (f g : ℕ → A) (b : ℕ) → row f b ≡ row g b → (k : ℕ) → k < b → f k ≡ g k
unfolding row
agree f g zero e k h = absurd (omega arith)
agree f g (suc b) e k h =
    let heads : f b ≡ g b = cc in
    let tails : row f b ≡ row g b = cc in
    let l : k ≤ b = omega arith in
    ⊎_elim (λ q. ap f q ∙ heads ∙ ap g (sym q)) (λ l. agree f g b tails k l) (eq-or-lt_of_le l)

-- a match that passed the codes below b
abbrev Past : ℕ → ℕ → Type 0
Past k zero = Unit {0}
Past k (suc b) = Past k b × (k ≡ b → ⊥)

pub past : (b k : ℕ) → Past k b → b ≤ k
past zero k h = omega arith
past (suc b) k h = omega (arith, past b k h.0, h.1)

-- the codes from 15 to 22

binaries : List Binary
binaries =
    Add
    ∷ Subtract
    ∷ Compare Equal
    ∷ Compare Unequal
    ∷ Compare Less
    ∷ Compare AtMost
    ∷ Compare Greater
    ∷ Compare AtLeast
    ∷ []

pub combined : (k : ℕ) → 15 ≤ k → k ≤ 22 → (b : Binary) × (operation_of k ≡ Combine b)
unfolding operations operation_of row binaries
combined k l h =
    let e : 15 + (k - 15) ≡ k = omega arith in
    let j : k - 15 < 8 = omega arith in
    (get_or binaries (k - 15) Add, ap operation_of (sym e) ∙ agree (λ j. operation_of (15 + j)) (λ j. Combine (get_or binaries j Add)) 8 refl (k - 15) j)

-- a code of an operation on cells that is none of those on the accumulator alone
pub on-two-cells : (k : ℕ) → is_on_cells (operation_of k) ≡ true → (k ≡ 5 → ⊥) → (k ≡ 6 → ⊥) → (k ≡ 7 → ⊥) → 15 ≤ k
unfolding operations operation_of is_on_cells row
on-two-cells k e p q r = go (ltb k 15) refl
  where
    go : (t : Bool) → ltb k 15 ≡ t → 15 ≤ k
    go true l =
        let none : is_on_cells (operation_of k) ≡ false =
        agree (λ k. is_on_cells (operation_of k)) (λ k. cond (eqb k 5) true (cond (eqb k 6) true (cond (eqb k 7) true false))) 15 refl k (ltb-true k 15 l)
        ∙ rw (ne_eqb k 5 p, ne_eqb k 6 q, ne_eqb k 7 r) refl in
        let z : ◌≡◌ {A = ℕ} 0 1 = cc in
        absurd (omega arith)
    go false l = ltb-false k 15 l

-- a code of an operation that pops the entry it works on
pub two_cells : (k : ℕ) → drops (operation_of k) 0 ≡ 1 → 15 ≤ k
unfolding operations operation_of drops row
two_cells k e = go (ltb k 15) refl
  where
    go : (t : Bool) → ltb k 15 ≡ t → 15 ≤ k
    go true l =
        let none : drops (operation_of k) 0 ≡ 0 = agree (λ k. drops (operation_of k) 0) (λ k. 0) 15 refl k (ltb-true k 15 l) in
        absurd (omega (arith, e, none))
    go false l = ltb-false k 15 l

-- what a code that is neither 2 nor 13 nor one of those drops
pub drops-none : (k n : ℕ) → (k ≡ 2 → ⊥) → (k ≡ 13 → ⊥) → k < 15 → drops (operation_of k) n ≡ 0
unfolding operations operation_of drops row
drops-none k n p q l =
    agree (λ k. drops (operation_of k) n) (λ k. cond (eqb k 2) n (cond (eqb k 13) n 0)) 15 refl k l
    ∙ rw (ne_eqb k 2 p, ne_eqb k 13 q) refl

-- only code 1 looks at an entry below the top
pub entry_top : (k n : ℕ) → (k ≡ 1 → ⊥) → entry_of (operation_of k) n ≡ 0
unfolding operations operation_of entry_of row
entry_top k n p = go (ltb k 23) refl
  where
    go : (t : Bool) → ltb k 23 ≡ t → entry_of (operation_of k) n ≡ 0
    go true e =
        agree (λ k. entry_of (operation_of k) n) (λ k. cond (eqb k 1) n 0) 23 refl k (ltb-true k 23 e) ∙ rw (ne_eqb k 1 p) refl
    go false e = ap (λ o. entry_of o n) (get_or-eq_default operations Stop (ltb-false k 23 e))
