-- Laws of a number of a range as the code computes it, in 64 bits. Assumes nothing.
use mathlib.Core.Path.{◌≡◌, refl, sym, ap, ap₂, subst, ◌∙◌}
use mathlib.Core.Bool.{true, ◌&&◌, false≢true}
use Prim.Native.Nat.{ℕ, zero, suc, ◌<◌, ◌≤◌}
use native.Mathlib.Omega.{arith}
use native.Mathlib.Numerals.{add-one}
use lib.Dec.{T, ltb}
use lib.IntN.{ℤ, pos, negsuc, nat_abs, ◌+ℤ◌, ◌-ℤ◌}
use lib.Signed.{mag, non_neg}
use mir.Syntax.{w32, w64}
use mir.Val.{Fits, SFits, of_z, to_z}
use mir.ValLaws.{to_z-of_z}
use borrow.Author.Tests.{ltb-true}
use Rattle.text.proofs.TextLaws.{and_left, and_right}
use Rattle.text_decimals.proofs.NumeralLaws.{natural-read}
use Rattle.numbers.specs.declared.Range.{Range}
use Rattle.numbers.specs.Numbers.{bits, half, IsNumber}
use Rattle.numbers.proofs.SignedLaws.{number_fits}
use Rattle.generate_file.specs.Words.{below, size_of, number_in}
use Rattle.generate_file.specs.Held.{starts_low, sound}
use Rattle.generate_file.proofs.NumberLaws.{below-under, number_is}

-- as the code holds it
abbrev held : ℤ → ℤ
held z = to_z w64 (of_z w64 z)

-- the difference of the ends is natural and small
span : (low high : ℤ) → (starts_low low && non_neg high) ≡ true → mag low < half bits → mag high < half bits
    → (high -ℤ low ≡ pos (nat_abs (high -ℤ low))) × (nat_abs (high -ℤ low) < 2147483648)
span (pos zero) (pos b) e l h = (refl, omega arith)
span (pos (suc a)) (pos b) e l h = absurd (false≢true e)
span (negsuc a) (pos b) e l h = (refl, omega arith)
span (pos zero) (negsuc b) e l h = absurd (false≢true e)
span (pos (suc a)) (negsuc b) e l h = absurd (false≢true e)
span (negsuc a) (negsuc b) e l h = absurd (false≢true e)

near_fits : (z : ℤ) → mag z < half bits → SFits w64 z
near_fits (pos n) h = record { sfits = omega arith }
near_fits (negsuc n) h = record { sfits = omega arith }

natural-fits : (n : ℕ) → n ≤ 2147483648 → SFits w64 (pos n)
natural-fits n h = record { sfits = omega arith }

module _ (r : Range) (s : sound r ≡ true) where
  ends : (ltb (mag r.low) (half bits) && ltb (mag r.high) (half bits)) ≡ true
  ends = and_right (starts_low r.low && non_neg r.high) (ltb (mag r.low) (half bits) && ltb (mag r.high) (half bits)) s

  low_near : mag r.low < half bits
  low_near = ltb-true (mag r.low) (half bits) (and_left (ltb (mag r.low) (half bits)) (ltb (mag r.high) (half bits)) ends)

  high-near : mag r.high < half bits
  high-near = ltb-true (mag r.high) (half bits) (and_right (ltb (mag r.low) (half bits)) (ltb (mag r.high) (half bits)) ends)

  spans : (r.high -ℤ r.low ≡ pos (nat_abs (r.high -ℤ r.low))) × (nat_abs (r.high -ℤ r.low) < 2147483648)
  spans = span r.low r.high (and_left (starts_low r.low && non_neg r.high) (ltb (mag r.low) (half bits) && ltb (mag r.high) (half bits)) s) low_near high-near

  -- the difference
  difference : held r.high -ℤ held r.low ≡ pos (nat_abs (r.high -ℤ r.low))
  difference = ap₂ (λ x y. x -ℤ y) (to_z-of_z w64 r.high (near_fits r.high high-near)) (to_z-of_z w64 r.low (near_fits r.low low_near)) ∙ spans.0

  pub difference-fits : SFits w64 (held r.high -ℤ held r.low)
  difference-fits = subst (SFits w64) (sym difference) (natural-fits (nat_abs (r.high -ℤ r.low)) (omega (arith, spans.1)))

  -- and one more
  size : held (held r.high -ℤ held r.low) +ℤ pos 1 ≡ pos (size_of r)
  size = ap (λ x. x +ℤ pos 1) (to_z-of_z w64 (held r.high -ℤ held r.low) difference-fits ∙ difference) ∙ ap pos (add-one (nat_abs (r.high -ℤ r.low)))

  pub size_fits : SFits w64 (held (held r.high -ℤ held r.low) +ℤ pos 1)
  size_fits = subst (SFits w64) (sym size) (natural-fits (size_of r) (omega (arith, spans.1)))

  size-held : held (held (held r.high -ℤ held r.low) +ℤ pos 1) ≡ pos (size_of r)
  size-held = to_z-of_z w64 (held (held r.high -ℤ held r.low) +ℤ pos 1) size_fits ∙ size

  pub size-natural : nat_abs (held (held (held r.high -ℤ held r.low) +ℤ pos 1)) ≡ size_of r
  size-natural = ap nat_abs size-held

  pub size-cast : T (non_neg (held (held (held r.high -ℤ held r.low) +ℤ pos 1))) × Fits w32 (nat_abs (held (held (held r.high -ℤ held r.low) +ℤ pos 1)))
  size-cast = (
    subst (λ x. T (non_neg x)) (sym size-held) tt,
    subst (λ n. Fits w32 n) (sym size-natural) (record { fits = omega (arith, spans.1) }),
  )

  pub size-some : 0 < nat_abs (held (held (held r.high -ℤ held r.low) +ℤ pos 1))
  size-some = omega (arith, size-natural)

  -- the number
  module _ (d x : ℕ) (e : x ≡ below (nat_abs (held (held (held r.high -ℤ held r.low) +ℤ pos 1))) d) where
    drawn : x ≡ below (size_of r) d
    drawn = e ∙ ap (λ n. below n d) size-natural

    sum : held r.low +ℤ to_z w64 x ≡ number_in r d
    unfolding number_in
    sum =
        let b = below-under (size_of r) d (omega arith) in
        ap₂ (λ y z. y +ℤ z) (to_z-of_z w64 r.low (near_fits r.low low_near)) (natural-read x (omega (arith, drawn, spans.1)) ∙ ap pos drawn)

    is : IsNumber (number_in r d)
    is = number_is r d s

    pub sum_fits : SFits w64 (held r.low +ℤ to_z w64 x)
    sum_fits = subst (SFits w64) (sym sum) (near_fits (number_in r d) is.fits)

    pub sum-cast : SFits w32 (held (held r.low +ℤ to_z w64 x))
    sum-cast = subst (SFits w32) (sym (to_z-of_z w64 (held r.low +ℤ to_z w64 x) sum_fits ∙ sum)) (number_fits (number_in r d) is)

    pub sum_is : to_z w32 (of_z w32 (held (held r.low +ℤ to_z w64 x))) ≡ number_in r d
    sum_is = to_z-of_z w32 (held (held r.low +ℤ to_z w64 x)) sum-cast ∙ to_z-of_z w64 (held r.low +ℤ to_z w64 x) sum_fits ∙ sum
