-- A number and an amount, added and subtracted in 64 bits. Assumes nothing.
use Prim.Native.Nat.{ℕ, ◌≤◌}
use mathlib.Core.Path.{◌≡◌, sym, ap, subst, ◌∙◌}
use native.Mathlib.Omega.{arith}
use lib.IntN.{ℤ, pos}
use mir.Syntax.{w32, w64}
use mir.Val.{SFits, to_z}
use mir.ValLaws.{to_z-of_z, to_z_pos}
use Rattle.numbers.proofs.SignedLaws.{read, wide, wide_is}

module _ (f : ℤ → ℤ → ℤ) (fits : (x y : ℤ) → SFits w32 x → SFits w32 y → SFits w64 (f x y)) (v : ℤ) (h : SFits w32 v) (n : ℕ) (l : n ≤ 64) where
  amount-is : f (wide v) (to_z w64 n) ≡ f v (pos n)
  amount-is = ap (λ x. f x (to_z w64 n)) (wide_is v h) ∙ ap (f v) (to_z_pos w64 n (omega arith))

  pub amount-fits : SFits w64 (f (wide v) (to_z w64 n))
  amount-fits = subst (SFits w64) (sym amount-is) (fits v (pos n) h (record { sfits = omega arith }))

  pub amount-read : read w64 (f (wide v) (to_z w64 n)) ≡ f v (pos n)
  amount-read = to_z-of_z w64 (f (wide v) (to_z w64 n)) amount-fits ∙ amount-is
