-- Laws of numbers: two's complement in any width, and wrapping, which gives a number and keeps every number. Assumes nothing.
use mathlib.Core.Path.{◌≡◌, refl, ap, ◌∙◌}
use mathlib.Core.Bool.{Bool, true, false, cond}
use mathlib.Core.Logic.{◌⊎◌, inl, inr}
use Prim.Native.Nat.{ℕ, zero, suc, ◌-◌, ◌*◌, ◌^◌, ◌%◌, ◌<◌, ◌≤◌}
use native.Mathlib.Nat.{mod-lt, mod-eq_of_lt, pow-succ', one-le-pow}
use native.Mathlib.Omega.{arith}
use lib.Dec.{ltb}
use lib.IntN.{ℤ, pos, negsuc}
use lib.Signed.{mag}
use borrow.Author.Tests.{lt-ltb, le-ltb, ltb-true, ltb-false}
use Rattle.numbers.specs.Numbers.{bits, modulus, half, IsNumber, residue, signed, wrap}

-- ---- two's complement in w bits

module _ (w : ℕ) where
  pub residue-fits : (z : ℤ) → residue w z < modulus w
  residue-fits (pos n) = mod-lt n (one-le-pow w 2 (omega arith))
  residue-fits (negsuc n) = let k = one-le-pow w 2 (omega arith) in omega arith

  pub signed_low : (r : ℕ) → r < half w → signed w r ≡ pos r
  signed_low r h = ap (λ t. cond t (pos r) (negsuc (modulus w - suc r))) (lt-ltb r (half w) h)

  pub signed_high : (r : ℕ) → half w ≤ r → signed w r ≡ negsuc (modulus w - suc r)
  signed_high r h = ap (λ t. cond t (pos r) (negsuc (modulus w - suc r))) (le-ltb r (half w) h)

  -- a remainder is below half or not
  halves : (r : ℕ) → (r < half w) ⊎ (half w ≤ r)
  halves r = go (ltb r (half w)) refl
    where
      go : (t : Bool) → ltb r (half w) ≡ t → (r < half w) ⊎ (half w ≤ r)
      go true e = inl (ltb-true r (half w) e)
      go false e = inr (ltb-false r (half w) e)

-- there are twice as many as half of them, in one bit or more
double : (w : ℕ) → 0 < w → modulus w ≡ 2 * half w
double zero h = absurd (omega arith)
double (suc v) h = pow-succ' 2 v ∙ ap (λ k. 2 * 2 ^ k) (omega arith)

module _ (w : ℕ) (some : 0 < w) where
  number_by : (r : ℕ) → (r < half w) ⊎ (half w ≤ r) → mag (signed w r) < half w
  number_by r (inl l) = rw (signed_low w r l) l
  number_by r (inr l) = let d = double w some in let k = one-le-pow (w - 1) 2 (omega arith) in rw (signed_high w r l) (omega arith)

  pub signed-number : (r : ℕ) → mag (signed w r) < half w
  signed-number r = number_by r (halves w r)

  -- the remainder of a number is that of no other
  pub signed_back : (z : ℤ) → mag z < half w → signed w (residue w z) ≡ z
  signed_back (pos n) k =
      let d = double w some in
      let e : n % modulus w ≡ n = mod-eq_of_lt (omega arith) in
      ap (signed w) e ∙ signed_low w n k
  signed_back (negsuc n) k =
      let d = double w some in
      let e : n % modulus w ≡ n = mod-eq_of_lt (omega arith) in
      ap (λ r. signed w (modulus w - suc r)) e ∙ signed_high w (modulus w - suc n) (omega arith) ∙ ap negsuc (omega arith)

-- ---- numbers

pub wrap-number : (z : ℤ) → IsNumber (wrap z)
unfolding wrap
wrap-number z = record { fits = signed-number bits (omega arith) (residue bits z) }

pub wrap-keeps : (z : ℤ) → IsNumber z → wrap z ≡ z
unfolding wrap
wrap-keeps z h = signed_back bits (omega arith) z h.fits
