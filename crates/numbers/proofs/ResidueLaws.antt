-- Laws of a number as a word of 32 bits and of a word as a number, as the code computes them. Assumes nothing.
use mathlib.Core.Path.{◌≡◌, sym, ap, subst, ◌∙◌}
use mathlib.Core.Bool.{true, false, cond, false≢true}
use Prim.Native.Nat.{ℕ, suc, ◌-◌, ◌%◌, ◌<◌}
use native.Mathlib.Omega.{arith}
use native.Mathlib.Nat.{mod-eq_of_lt}
use lib.Dec.{T}
use lib.IntN.{ℤ, pos, negsuc, nat_abs, ◌+ℤ◌}
use lib.Signed.{lt_z, non_neg}
use mir.Syntax.{w32, w64}
use mir.Val.{Fits, SFits, of_z, to_z}
use mir.ValLaws.{to_z-of_z}
use borrow.Author.Tests.{le-ltb, ltb-true}
use Rattle.numbers.specs.Numbers.{modulus, half, residue, signed}
use Rattle.numbers.proofs.NumberLaws.{residue-fits, signed-number}
use Rattle.numbers.proofs.SignedLaws.{wide, wide_is}

-- below 0, the word is the number and 2 ^ 32
raised : (z : ℤ) → SFits w32 z → lt_z z (pos 0) ≡ true → z +ℤ pos (modulus 32) ≡ pos (residue 32 z)
raised (pos n) h e = let k : n < 0 = ltb-true n 0 e in absurd (omega arith)
raised (negsuc n) h e =
    let k : n < half 32 = h.sfits in
    let m : n % modulus 32 ≡ n = mod-eq_of_lt (omega arith) in
    ap (λ t. cond t (negsuc (suc n - suc (modulus 32))) (pos (modulus 32 - suc n))) (le-ltb (modulus 32) (suc n) (omega arith)) ∙ ap (λ r. pos (modulus 32 - suc r)) (sym m)

-- from 0 on, it is the number
kept : (z : ℤ) → SFits w32 z → lt_z z (pos 0) ≡ false → z ≡ pos (residue 32 z)
kept (pos n) h e =
    let k : n < half 32 = h.sfits in
    let m : n % modulus 32 ≡ n = mod-eq_of_lt (omega arith) in
    ap pos (sym m)
kept (negsuc n) h e = absurd (false≢true (sym e))

module _ (z : ℤ) (h : SFits w32 z) where
  word_fits : SFits w64 (pos (residue 32 z))
  word_fits = let k = residue-fits 32 z in record { sfits = omega arith }

  cast-word : Fits w32 (residue 32 z)
  cast-word = let k = residue-fits 32 z in record { fits = omega arith }

  module _ (e : lt_z (wide z) (pos 0) ≡ true) where
    raised-wide : wide z +ℤ pos (modulus 32) ≡ pos (residue 32 z)
    raised-wide = ap (λ x. x +ℤ pos (modulus 32)) (wide_is z h) ∙ raised z h (ap (λ x. lt_z x (pos 0)) (sym (wide_is z h)) ∙ e)

    pub raised-fits : SFits w64 (wide z +ℤ pos (modulus 32))
    raised-fits = subst (SFits w64) (sym raised-wide) word_fits

    raised-back : to_z w64 (of_z w64 (wide z +ℤ pos (modulus 32))) ≡ pos (residue 32 z)
    raised-back = to_z-of_z w64 _ raised-fits ∙ raised-wide

    pub raised-cast : T (non_neg (to_z w64 (of_z w64 (wide z +ℤ pos (modulus 32))))) × Fits w32 (nat_abs (to_z w64 (of_z w64 (wide z +ℤ pos (modulus 32)))))
    raised-cast = (subst (λ x. T (non_neg x)) (sym raised-back) tt, subst (λ x. Fits w32 (nat_abs x)) (sym raised-back) cast-word)

    pub raised_is : nat_abs (to_z w64 (of_z w64 (wide z +ℤ pos (modulus 32)))) ≡ residue 32 z
    raised_is = ap nat_abs raised-back

  module _ (e : lt_z (wide z) (pos 0) ≡ false) where
    kept-wide : wide z ≡ pos (residue 32 z)
    kept-wide = wide_is z h ∙ kept z h (ap (λ x. lt_z x (pos 0)) (sym (wide_is z h)) ∙ e)

    pub kept-cast : T (non_neg (wide z)) × Fits w32 (nat_abs (wide z))
    kept-cast = (subst (λ x. T (non_neg x)) (sym kept-wide) tt, subst (λ x. Fits w32 (nat_abs x)) (sym kept-wide) cast-word)

    pub kept-is : nat_abs (wide z) ≡ residue 32 z
    kept-is = ap nat_abs kept-wide

-- ---- signed words

-- they fit 32 bits
pub signed-fits : (n : ℕ) → SFits w32 (signed 32 n)
signed-fits n = record { sfits = signed-number 32 (omega arith) n }
