-- How far a number of 32 bits is from 0, by the number of 64 bits that it is cast to. Assumes nothing.
use mathlib.Core.Path.{◌≡◌, sym, ap, subst, ◌∙◌}
use mathlib.Core.Bool.{true}
use Prim.Native.Nat.{suc, ◌<◌, ◌≤◌}
use native.Mathlib.Omega.{arith}
use lib.IntN.{ℤ, pos, negsuc, nat_abs, ◌-ℤ◌, +ℤ_idl}
use lib.Signed.{lt_z}
use mir.Syntax.{w32, w64}
use mir.Val.{SFits}
use borrow.Author.Tests.{ltb-true}
use Rattle.numbers.proofs.SignedLaws.{wide, wide_is}

-- below 0
minus : (z : ℤ) → lt_z z (pos 0) ≡ true → pos 0 -ℤ z ≡ pos (nat_abs z)
minus (pos n) e = let h : n < 0 = ltb-true n 0 e in absurd (omega arith)
minus (negsuc n) e = +ℤ_idl (pos (suc n))

pub near : (z : ℤ) → SFits w32 z → nat_abs z ≤ 2147483648
near (pos n) h = let k = h.sfits in omega arith
near (negsuc n) h = let k = h.sfits in omega arith

module _ (z : ℤ) (h : SFits w32 z) where
  -- below 0, the number that is subtracted from 0
  minus-wide : lt_z (wide z) (pos 0) ≡ true → pos 0 -ℤ wide z ≡ pos (nat_abs z)
  minus-wide e = minus (wide z) e ∙ ap (λ x. pos (nat_abs x)) (wide_is z h)

  natural-fits : SFits w64 (pos (nat_abs z))
  natural-fits = let k = near z h in record { sfits = omega arith }

  pub minus-fits : lt_z (wide z) (pos 0) ≡ true → SFits w64 (pos 0 -ℤ wide z)
  minus-fits e = subst (SFits w64) (sym (minus-wide e)) natural-fits
