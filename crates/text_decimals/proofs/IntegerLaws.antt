-- Laws of integers in decimal, as the code writes them. Assumes nothing.
use mathlib.Core.Path.{◌≡◌, refl, sym, ap, ◌∙◌}
use mathlib.Core.Bool.{true, false, false≢true}
use mathlib.Core.List.{◌++◌}
use Prim.Native.Nat.{ℕ, suc, ◌<◌, ◌≤◌}
use native.Mathlib.Omega.{arith}
use lib.IntN.{ℤ, pos, negsuc, nat_abs}
use lib.ListN.{length}
use lib.Signed.{lt_z}
use mir.Syntax.{w32}
use mir.Val.{SFits, of_z, to_z}
use mir.ValLaws.{to_z-of_z}
use borrow.Author.Tests.{ltb-true}
use Rattle.numbers.proofs.MagnitudeLaws.{near}
use Rattle.text.specs.Text.{bytes}
use Rattle.text_decimals.specs.Decimal.{decimal, integer}
use Rattle.text_decimals.proofs.DecimalLaws.{decimal-length}

integer-below : (z : ℤ) → lt_z z (pos 0) ≡ true → integer z ≡ bytes "-" ++ decimal (nat_abs z)
unfolding integer
integer-below (pos n) e = let h : n < 0 = ltb-true n 0 e in absurd (omega arith)
integer-below (negsuc n) e = refl

integer-from : (z : ℤ) → lt_z z (pos 0) ≡ false → integer z ≡ decimal (nat_abs z)
unfolding integer
integer-from (pos n) e = refl
integer-from (negsuc n) e = absurd (false≢true (sym e))

-- the same where the test is of the code's number, and m is its magnitude
module _ (z : ℤ) (h : SFits w32 z) {m : ℕ} (k : m ≡ nat_abs (to_z w32 (of_z w32 z))) where
  pub integer-negative : lt_z (to_z w32 (of_z w32 z)) (pos 0) ≡ true → integer z ≡ bytes "-" ++ decimal m
  integer-negative e =
      integer-below z (sym (ap (λ x. lt_z x (pos 0)) (to_z-of_z w32 z h)) ∙ e) ∙ ap (λ n. bytes "-" ++ decimal n) (sym (k ∙ ap nat_abs (to_z-of_z w32 z h)))

  pub integer-natural : lt_z (to_z w32 (of_z w32 z)) (pos 0) ≡ false → integer z ≡ decimal m
  integer-natural e = integer-from z (sym (ap (λ x. lt_z x (pos 0)) (to_z-of_z w32 z h)) ∙ e) ∙ ap decimal (sym (k ∙ ap nat_abs (to_z-of_z w32 z h)))

pub integer-signed : (z : ℤ) → SFits w32 z → lt_z (to_z w32 (of_z w32 z)) (pos 0) ≡ true → 1 ≤ length (integer z)
integer-signed z h e = let l = ap length (integer-negative z h refl e) in omega arith

-- "-2147483648" has 11 characters
pub integer-length : (z : ℤ) → SFits w32 z → length (integer z) ≤ 11
unfolding integer
integer-length (pos n) h = let k = near (pos n) h in let l = decimal-length 10 n (omega arith) (omega arith) in omega arith
integer-length (negsuc n) h = let k = near (negsuc n) h in let l = decimal-length 10 (suc n) (omega arith) (omega arith) in omega arith
