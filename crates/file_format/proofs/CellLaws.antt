-- Laws of a number that is written as a cell: it is read back as that number. Assumes nothing.
use Rattle.std.specs.Prelude.{None, Some}
use mathlib.Core.Path.{◌≡◌, refl, ap, subst, ◌∙◌}
use mathlib.Core.Bool.{Bool, true, false, cond, ◌&&◌}
use mathlib.Core.List.{List, [], ◌∷◌}
use Prim.Native.Nat.{ℕ, ◌+◌}
use native.Mathlib.Omega.{arith}
use lib.Dec.{eqb}
use lib.IntN.{ℤ}
use lib.ListN.{length, get_or, take, drop}
use borrow.Author.Tests.{eqb-true}
use Rattle.text.specs.Text.{equals}
use Rattle.text_decimals.specs.Decimal.{digits_from, natural, numeral, integer}
use Rattle.file_format.specs.declared.CellWord.TheVariants.{Unknown as unknown, Known as known}
use Rattle.file_format.specs.Rows.{known_of, block_of, span_of, stop, spanned, hashed, cell_word}
use Rattle.text.proofs.JoinLaws.{Free, split-alone}
use Rattle.text_decimals.proofs.SpellingLaws.{integer-read, integer-free}

not-spelt : {X : Type 0} (z : ℤ) → None ≡ Some z → X
not-spelt z e = let q : ◌≡◌ {A = ℕ} 0 1 = cc in absurd (omega arith)

-- without a full stop it is no range
past : (w : List ℕ) → get_or w (length w) 0 ≡ 0
past [] = refl
past (x ∷ w) = past w

spanned-alone : (w : List ℕ) → Free 46 w → spanned w ≡ known_of (numeral w)
unfolding spanned
spanned-alone w h =
    let e : stop w ≡ length w = ap (λ ws. length (get_or ws 0 [])) (split-alone 46 h) in
    let p : eqb (get_or w (stop w) 0) 46 ≡ false = ap (λ (k : ℕ). eqb (get_or w k 0) 46) e ∙ ap (λ (b : ℕ). eqb b 46) (past w) in
    ap (λ (b : Bool). cond (b && eqb (get_or w (stop w + 1) 0) 46) (span_of (numeral (take (stop w) w)) (numeral (drop (stop w + 2) w))) (known_of (numeral w))) p

-- a number is no `?`, no handle and no range
pub spelt-cell : (w : List ℕ) (z : ℤ) → Free 46 w → numeral w ≡ Some z → cell_word w ≡ known z
unfolding cell_word hashed known_of equals numeral natural digits_from
spelt-cell [] z h e = not-spelt z e
spelt-cell (d ∷ ds) z h e = go (eqb d 63) refl (eqb d 35) refl
  where
    go : (a : Bool) → eqb d 63 ≡ a → (b : Bool) → eqb d 35 ≡ b
        → cond (cond a (equals ds []) false) unknown (cond b (block_of (numeral ds)) (spanned (d ∷ ds))) ≡ known z
    go true p b q = not-spelt z (subst (λ x. numeral (x ∷ ds) ≡ Some z) (eqb-true d 63 p) e)
    go false p true q = not-spelt z (subst (λ x. numeral (x ∷ ds) ≡ Some z) (eqb-true d 35 q) e)
    go false p false q = spanned-alone (d ∷ ds) h ∙ ap known_of e

pub integer-cell : (z : ℤ) → cell_word (integer z) ≡ known z
integer-cell z = spelt-cell (integer z) z (integer-free 46 (λ e. omega arith) (omega arith) z) (integer-read z)
