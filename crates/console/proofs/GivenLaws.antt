-- Laws of a number that is given as an argument: what the code holds of it decides as the number does. Assumes nothing.
use Rattle.std.specs.Prelude.{None, Option, Some}
use Prim.Native.Nat.{ℕ, ◌<◌, ◌≤◌, min}
use mathlib.Core.Path.{◌≡◌, refl, sym, ap, ◌∙◌}
use mathlib.Core.Bool.{true, false}
use native.Mathlib.Omega.{arith}
use lib.Dec.{T, ltb}
use lib.IntN.{ℤ, pos, negsuc, nat_abs}
use lib.Signed.{non_neg, lt_z}
use borrow.Author.Tests.{lt-ltb, le-ltb, ltb-true, ltb-false}
use mir.Syntax.{w32, w64}
use mir.Val.{Fits, SFits}
use Rattle.text_decimals.specs.HeldMagnitude.{most, clamp, clamped}
use Rattle.console.specs.HeldGiven.{given}

-- it is small
pub clamped-fits : (m : Option ℤ) (z : ℤ) → Some z ≡ clamped m → SFits w64 z
unfolding clamped clamp
clamped-fits None z e = let x : ◌≡◌ {A = ℕ} 0 1 = cc in absurd (omega arith)
clamped-fits (Some (pos n)) z e = let q : z ≡ pos (min most n) = cc in rw q (record { sfits = omega arith })
clamped-fits (Some (negsuc n)) z e = let q : z ≡ negsuc (min most n) = cc in rw q (record { sfits = omega arith })

pub given-none : (m : Option ℤ) → None ≡ clamped m → None ≡ given m
unfolding given clamped
given-none None e = refl
given-none (Some z) e = let x : ◌≡◌ {A = ℕ} 0 1 = cc in absurd (omega arith)

pub given-low : (m : Option ℤ) (z : ℤ) → Some z ≡ clamped m → lt_z z (pos 0) ≡ true → None ≡ given m
unfolding given clamped clamp
given-low None z e h = refl
given-low (Some (pos n)) z e h = let q : z ≡ pos (min most n) = cc in let f : ltb (min most n) 0 ≡ true = sym (ap (λ x. lt_z x (pos 0)) q) ∙ h in absurd (omega (arith, ltb-true (min most n) 0 f))
given-low (Some (negsuc n)) z e h = refl

pub given-high : (m : Option ℤ) (z : ℤ) → Some z ≡ clamped m → lt_z (pos 4294967295) z ≡ true → None ≡ given m
unfolding given clamped clamp
given-high None z e h = refl
given-high (Some (pos n)) z e h =
    let q : z ≡ pos (min most n) = cc in
    let f : ltb 4294967295 (min most n) ≡ true = sym (ap (lt_z (pos 4294967295)) q) ∙ h in
    let l : 4294967296 ≤ n = omega (arith, ltb-true 4294967295 (min most n) f) in
    rw (le-ltb n 4294967296 l) refl
given-high (Some (negsuc n)) z e h = refl

-- what is neither below 0 nor above 2^32 - 1
pub record Held (m : Option ℤ) (z : ℤ) : Type 0 where
  pub natural : T (non_neg z)
  pub fits : Fits w32 (nat_abs z)
  pub is : Some (nat_abs z) ≡ given m

pub given-held : (m : Option ℤ) (z : ℤ) → Some z ≡ clamped m → lt_z z (pos 0) ≡ false → lt_z (pos 4294967295) z ≡ false → Held m z
unfolding given clamped clamp
given-held None z e h g = let x : ◌≡◌ {A = ℕ} 0 1 = cc in absurd (omega arith)
given-held (Some (pos n)) z e h g =
    let q : z ≡ pos (min most n) = cc in
    let f : ltb 4294967295 (min most n) ≡ false = sym (ap (lt_z (pos 4294967295)) q) ∙ g in
    let k : min most n ≤ 4294967295 = ltb-false 4294967295 (min most n) f in
    let s : min most n ≡ n = omega arith in
    let l : n < 4294967296 = omega arith in
    rw q (record { natural = tt; fits = omega arith; is = rw (lt-ltb n 4294967296 l, s) refl })
given-held (Some (negsuc n)) z e h g = let q : z ≡ negsuc (min most n) = cc in let f : true ≡ false = sym (ap (λ x. lt_z x (pos 0)) q) ∙ h in let x : ◌≡◌ {A = ℕ} 0 1 = cc in absurd (omega arith)
