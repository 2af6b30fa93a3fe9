-- Facts of an arm of a match and of a test. Assumes nothing.
use Prim.Native.Nat.{ℕ, suc, ◌<◌, ◌≤◌}
use mathlib.Core.Path.{◌≡◌, refl, sym}
use mathlib.Core.Bool.{Bool, true, false, not}
use mathlib.Core.Logic.{⊎_elim}
use native.Mathlib.Nat.{eq-or-lt_of_le}
use native.Mathlib.Omega.{arith}

-- the arm of all other numbers, one number at a time
pub above : (n i : ℕ) → n ≤ i → (i ≡ n → ⊥) → suc n ≤ i
above n i h f = ⊎_elim (λ (e : n ≡ i). absurd (f (sym e))) (λ (l : n < i). l) (eq-or-lt_of_le h)

-- a test that is denied

pub not-true : (b : Bool) → not b ≡ true → b ≡ false
not-true true e = sym e
not-true false e = refl

pub not-false : (b : Bool) → not b ≡ false → b ≡ true
not-false true e = refl
not-false false e = sym e

-- a test is not both
pub never : {A : Type 0} (b : Bool) → b ≡ false → b ≡ true → A
never b e h = let z : ◌≡◌ {A = ℕ} 0 1 = cc in absurd (omega arith)
