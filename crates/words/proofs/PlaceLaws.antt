-- Laws of an argument that is a place of a line, as the code tests it. Assumes nothing.
use mathlib.Core.Path.{◌≡◌, refl, sym, ap, ◌∙◌}
use mathlib.Core.Bool.{Bool, true, false, false≢true}
use Prim.Native.Nat.{ℕ, ◌≤◌, ◌<◌}
use native.Mathlib.Omega.{arith}
use lib.IntN.{ℤ, pos, negsuc}
use lib.Signed.{lt_z}
use borrow.Author.Tests.{ltb-true}
use mir.Syntax.{w32}
use mir.Val.{SFits, of_z, to_z}
use mir.ValLaws.{to_z-of_z, to_z_pos}
use Rattle.instructions.specs.declared.Argument.{Argument}
use Rattle.instructions.specs.declared.Argument.TheVariants.{Primitive}
use Rattle.words.specs.Decoding.{is_place, call_listed}

below_none : (n : ℕ) (z : ℤ) → lt_z z (pos 0) ≡ true → is_place n z ≡ false
unfolding is_place
below_none n (pos k) e = let h : k < 0 = ltb-true k 0 e in absurd (omega arith)
below_none n (negsuc k) e = refl

from-0-on : (n : ℕ) (z : ℤ) → lt_z z (pos 0) ≡ false → lt_z z (pos n) ≡ is_place n z
unfolding is_place
from-0-on n (pos k) e = refl
from-0-on n (negsuc k) e = absurd (false≢true (sym e))

-- the same where the tests are of the code's numbers
module _ (n : ℕ) (z : ℤ) (h : SFits w32 z) where
  pub place-negative : lt_z (to_z w32 (of_z w32 z)) (pos 0) ≡ true → is_place n z ≡ false
  place-negative e = below_none n z (ap (λ x. lt_z x (pos 0)) (sym (to_z-of_z w32 z h)) ∙ e)

  pub place-natural : n ≤ 32 → lt_z (to_z w32 (of_z w32 z)) (pos 0) ≡ false → lt_z (to_z w32 (of_z w32 z)) (to_z w32 n) ≡ is_place n z
  place-natural l e =
      ap (λ x. lt_z x (to_z w32 n)) (to_z-of_z w32 z h)
      ∙ ap (lt_z z) (to_z_pos w32 n (omega arith))
      ∙ from-0-on n z (ap (λ x. lt_z x (pos 0)) (sym (to_z-of_z w32 z h)) ∙ e)

-- a primitive, where its number is read back
pub call-primitive : {y : ℤ} {b : Bool} {a : Argument} (n : ℕ) (z : ℤ) → y ≡ z → a ≡ Primitive → b ≡ is_place n y → b ≡ call_listed n z a
unfolding call_listed
call-primitive n z e f h = h ∙ ap (is_place n) e ∙ rw f refl
