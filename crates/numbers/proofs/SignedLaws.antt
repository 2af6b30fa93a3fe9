-- Signed locals. A local holds bits, and the machine computes with what it reads back from them; that is the number itself where the
-- number fits the width. Assumes nothing.
use mathlib.Core.Path.{◌≡◌, refl, sym, ap, subst, ◌∙◌}
use mathlib.Core.Bool.{Bool, true, false, cond}
use Prim.Native.Nat.{ℕ, zero, suc, ◌-◌, ◌*◌, ◌^◌, ◌%◌, ◌<◌, ◌≤◌}
use native.Mathlib.Nat.{lt_of_lt_of_le}
use native.Mathlib.Omega.{arith}
use lib.Dec.{ltb, eqb, lit≤}
use lib.IntN.{ℤ, pos, negsuc, neg_ℤ, sub_ℕ, ◌+ℤ◌, ◌-ℤ◌, +ℤ_idl}
use lib.Signed.{mag, lt_z, le_z, shr_z}
use mir.Syntax.{Width, w32, w64}
use mir.Val.{SFits, of_z, to_z}
use mir.ValLaws.{to_z-of_z, to_z_pos, to_z-neg}
use borrow.Author.Tests.{lt-ltb, le-ltb, ltb-true, ltb-false, leb-false, eq-eqb, ne_eqb, eqb-true, eqb-false}
use Rattle.numbers.specs.Numbers.{bits, modulus, half, IsNumber, residue, signed, wrap, same, bit}
use Rattle.numbers.proofs.NumberLaws.{signed_low, signed_high, wrap-number, wrap-keeps}

-- what the machine reads back
abbrev pub read : Width → ℤ → ℤ
read w z = to_z w (of_z w z)

pub read-both {ℓ} : {X : Type ℓ} (f : ℤ → ℤ → X) (w : Width) (x y : ℤ) → SFits w x → SFits w y → f (read w x) (read w y) ≡ f x y
read-both f w x y h k = ap (λ a. f a (read w y)) (to_z-of_z w x h) ∙ ap (f x) (to_z-of_z w y k)

-- ---- numbers and widths

-- the code holds numbers in 32 bits
pub number_fits : (z : ℤ) → IsNumber z → SFits w32 z
number_fits z h = record { sfits = lt_of_lt_of_le h.fits (lit≤ tt) }

widen : (z : ℤ) → SFits w32 z → SFits w64 z
widen z h = record { sfits = lt_of_lt_of_le h.sfits (lit≤ tt) }

pub wrap-fits : (z : ℤ) → SFits w32 (wrap z)
wrap-fits z = number_fits (wrap z) (wrap-number z)

-- the code has y for x, which fits 32 bits: y fits both widths, and x is read back from both
module _ {x y : ℤ} (h : SFits w32 x) (e : x ≡ y) where
  pub result_fits : SFits w32 y
  result_fits = subst (SFits w32) e h

  pub result-wide : SFits w64 y
  result-wide = widen y result_fits

  pub result-read : read w32 y ≡ x
  result-read = to_z-of_z w32 y result_fits ∙ sym e

  pub result-back : read w32 (read w64 y) ≡ x
  result-back = ap (read w32) (to_z-of_z w64 y result-wide) ∙ result-read

-- ---- narrowing: of 64 bits those that a number leaves over are shifted out, and the sign of the others is shifted in

abbrev spare : ℕ
spare = 64 - bits

-- the remainder of a number is that of its bits
residue-bits : (s : ℤ) → SFits w64 s → residue bits s ≡ of_z w64 s % modulus bits
residue-bits (pos n) h = refl
residue-bits (negsuc n) h = let k : n < 2 ^ 63 = h.sfits in omega arith

shifted-out : (n : ℕ) → n * 2 ^ spare % 2 ^ 64 ≡ n % modulus bits * 2 ^ spare
shifted-out n = omega arith

shifted_in : (r : ℕ) → r < modulus bits → shr_z (to_z w64 (r * 2 ^ spare)) (2 ^ spare) ≡ signed bits r
shifted_in r h = go (ltb r (half bits)) refl
  where
    go : (t : Bool) → ltb r (half bits) ≡ t → shr_z (to_z w64 (r * 2 ^ spare)) (2 ^ spare) ≡ signed bits r
    go true e =
        let l : r < half bits = ltb-true r (half bits) e in
        ap (λ z. shr_z z (2 ^ spare)) (to_z_pos w64 (r * 2 ^ spare) (omega arith)) ∙ ap pos (omega arith) ∙ sym (signed_low bits r l)
    go false e =
        let l : half bits ≤ r = ltb-false r (half bits) e in
        let k = 2 ^ 64 - suc (r * 2 ^ spare) in
        let e : r * 2 ^ spare ≡ 2 ^ 64 - suc k = omega arith in
        ap (λ z. shr_z z (2 ^ spare)) (ap (to_z w64) e ∙ to_z-neg w64 k (omega arith)) ∙ ap negsuc (omega arith) ∙ sym (signed_high bits r l)

pub narrowed : (s : ℤ) → SFits w64 s → wrap s ≡ shr_z (to_z w64 (of_z w64 s * 2 ^ spare % 2 ^ 64)) (2 ^ spare)
unfolding wrap
narrowed s h =
    ap (signed bits) (residue-bits s h)
    ∙ sym (shifted_in (of_z w64 s % modulus bits) (omega arith))
    ∙ ap (λ n. shr_z (to_z w64 n) (2 ^ spare)) (sym (shifted-out (of_z w64 s)))

-- ---- differences of naturals

sub-less : (a b : ℕ) → a < b → sub_ℕ a b ≡ negsuc (b - suc a)
sub-less a b h = ap (λ t. cond t (negsuc (b - suc a)) (pos (a - b))) (lt-ltb a b h)

sub_more : (a b : ℕ) → b ≤ a → sub_ℕ a b ≡ pos (a - b)
sub_more a b h = ap (λ t. cond t (negsuc (b - suc a)) (pos (a - b))) (le-ltb a b h)

sub-mag-by : (a b k : ℕ) → a < k → b < suc k → (t : Bool) → ltb a b ≡ t → mag (sub_ℕ a b) < k
sub-mag-by a b k h g true e =
    let l : a < b = ltb-true a b e in
    subst (λ z. mag z < k) (sym (sub-less a b l)) (omega arith)
sub-mag-by a b k h g false e =
    let l : b ≤ a = ltb-false a b e in
    subst (λ z. mag z < k) (sym (sub_more a b l)) (omega arith)

sub-fits : (a b : ℕ) → a < 2 ^ 63 → b < suc (2 ^ 63) → SFits w64 (sub_ℕ a b)
sub-fits a b h g = record { sfits = sub-mag-by a b (2 ^ 63) h g (ltb a b) refl }

-- ---- sums and differences of numbers of 32 bits, in 64 bits

pub sum_fits : (x y : ℤ) → SFits w32 x → SFits w32 y → SFits w64 (x +ℤ y)
sum_fits (pos a) (pos b) h k = record { sfits = omega arith }
sum_fits (pos a) (negsuc b) h k = sub-fits a (suc b) (omega arith) (omega arith)
sum_fits (negsuc a) (pos b) h k = sub-fits b (suc a) (omega arith) (omega arith)
sum_fits (negsuc a) (negsuc b) h k = record { sfits = omega arith }

pub difference-fits : (x y : ℤ) → SFits w32 x → SFits w32 y → SFits w64 (x -ℤ y)
difference-fits x (pos zero) h k = sum_fits x (pos zero) h k
difference-fits (pos a) (pos (suc b)) h k = sub-fits a (suc b) (omega arith) (omega arith)
difference-fits (negsuc a) (pos (suc b)) h k = record { sfits = omega arith }
difference-fits (pos a) (negsuc b) h k = record { sfits = omega arith }
difference-fits (negsuc a) (negsuc b) h k = sub-fits (suc b) (suc a) (omega arith) (omega arith)

-- a number that is cast to 64 bits
abbrev pub wide : ℤ → ℤ
wide x = read w64 (read w32 x)

pub cast_fits : (x : ℤ) → SFits w32 x → SFits w64 (read w32 x)
cast_fits x h = subst (SFits w64) (sym (to_z-of_z w32 x h)) (widen x h)

pub wide_is : (x : ℤ) → SFits w32 x → wide x ≡ x
wide_is x h = to_z-of_z w64 (read w32 x) (cast_fits x h) ∙ to_z-of_z w32 x h

-- an operation on two such numbers: it fits, and is read back
module _ (f : ℤ → ℤ → ℤ) (fits : (x y : ℤ) → SFits w32 x → SFits w32 y → SFits w64 (f x y)) {x y : ℤ} (h : SFits w32 x) (k : SFits w32 y) where
  operation-is : f (wide x) (wide y) ≡ f x y
  operation-is = ap (λ a. f a (wide y)) (wide_is x h) ∙ ap (f x) (wide_is y k)

  pub operation-fits : SFits w64 (f (wide x) (wide y))
  operation-fits = subst (SFits w64) (sym operation-is) (fits x y h k)

  pub operation-read : read w64 (f (wide x) (wide y)) ≡ f x y
  operation-read = to_z-of_z w64 (f (wide x) (wide y)) operation-fits ∙ operation-is

-- ---- negation

pub zero_minus : (x : ℤ) → SFits w32 x → pos 0 -ℤ read w32 x ≡ neg_ℤ x
zero_minus x h = ap (λ z. pos 0 -ℤ z) (to_z-of_z w32 x h) ∙ +ℤ_idl (neg_ℤ x)

-- every number but the lowest has its negative
negative : (x : ℤ) → le_z x (negsuc (half bits - 1)) ≡ false → lt_z (pos (half bits - 1)) x ≡ false → IsNumber (neg_ℤ x)
negative (pos zero) f g = record { fits = omega arith }
negative (pos (suc n)) f g = let k : suc n ≤ half bits - 1 = ltb-false _ _ g in record { fits = omega arith }
negative (negsuc n) f g = let k : n < half bits - 1 = leb-false _ _ f in record { fits = omega arith }

pub wrap-negative : (x : ℤ) → SFits w32 x → le_z (read w32 x) (negsuc (half bits - 1)) ≡ false → lt_z (pos (half bits - 1)) (read w32 x) ≡ false
    → wrap (neg_ℤ x) ≡ pos 0 -ℤ read w32 x
wrap-negative x h f g =
    let e = to_z-of_z w32 x h in
    wrap-keeps (neg_ℤ x) (negative x (ap (λ z. le_z z (negsuc (half bits - 1))) (sym e) ∙ f) (ap (lt_z (pos (half bits - 1))) (sym e) ∙ g)) ∙ sym (zero_minus x h)

-- ---- equality is tested on the bits

-- two numbers are equal where their bits are
pub bits-equal : (w : Width) (x y : ℤ) → SFits w x → SFits w y → of_z w x ≡ of_z w y → x ≡ y
bits-equal w x y h k e = sym (to_z-of_z w x h) ∙ ap (to_z w) e ∙ to_z-of_z w y k

same_self : (x : ℤ) → same x x ≡ true
same_self (pos a) = eq-eqb a a refl
same_self (negsuc a) = eq-eqb a a refl

same_not : (x y : ℤ) → (x ≡ y → ⊥) → same x y ≡ false
same_not (pos a) (pos b) n = ne_eqb a b (λ e. n (ap pos e))
same_not (pos a) (negsuc b) n = refl
same_not (negsuc a) (pos b) n = refl
same_not (negsuc a) (negsuc b) n = ne_eqb a b (λ e. n (ap negsuc e))

pub same_bits : (w : Width) (x y : ℤ) → SFits w x → SFits w y → eqb (of_z w x) (of_z w y) ≡ same x y
same_bits w x y h k = go (eqb (of_z w x) (of_z w y)) refl
  where
    go : (t : Bool) → eqb (of_z w x) (of_z w y) ≡ t → t ≡ same x y
    go true e = sym (subst (λ z. same x z ≡ true) (bits-equal w x y h k (eqb-true _ _ e)) (same_self x))
    go false e = sym (same_not x y (λ q. eqb-false _ _ e (ap (of_z w) q)))

-- the number of a test
pub bit-read : (b : Bool) → read w32 (bit b) ≡ bit b
bit-read true = refl
bit-read false = refl

pub bit-keeps : (b : Bool) → wrap (bit b) ≡ bit b
unfolding wrap
bit-keeps true = refl
bit-keeps false = refl
