-- Laws of tests joined by `&&`, of a match, and of a range. Assumes nothing.
use Prim.Native.Nat.{ℕ, suc, ◌<◌}
use mathlib.Core.Path.{◌≡◌, refl, sym, ap, subst, ◌∙◌}
use mathlib.Core.Bool.{Bool, true, false, not, ◌&&◌}
use mathlib.Core.List.{List, [], ◌∷◌}
use native.Mathlib.Omega.{arith}
use lib.Dec.{ltb}
use lib.ListN.{length}
use borrow.Author.Tests.{lt-ltb}
use Rattle.text.specs.Text.{is_empty}
use Rattle.text_decimals.specs.HeldMagnitude.{most}
use Rattle.numbers.specs.declared.Range.{Range}
use Rattle.numbers.specs.Numbers.{naturals}
use Rattle.file_values.specs.HeldValues.{Near}

-- ---- tests

pub and-true : {a b x : Bool} → a ≡ true → x ≡ b → x ≡ a && b
and-true {b = b} p q = q ∙ sym (ap (λ a. a && b) p)

pub and-false : {a : Bool} (b : Bool) → a ≡ false → false ≡ a && b
and-false b p = sym (ap (λ a. a && b) p)

-- the same for three tests

pub and-through : (a b c : Bool) {x : Bool} → a ≡ true → x ≡ b && c → x ≡ a && b && c
and-through a b c p e = e ∙ sym (ap (λ t. t && b && c) p)

pub and-stop : (a b c : Bool) → a ≡ false → false ≡ a && b && c
and-stop a b c p = sym (ap (λ t. t && b && c) p)

-- the arm of a match that found d
pub arm : {B X : Type 0} (f : B → X) {a d : B} {x : X} → a ≡ d → x ≡ f d → x ≡ f a
arm f p q = q ∙ sym (ap f p)

pub filled : {A : Type 0} (l : List A) → ltb 0 (length l) ≡ not (is_empty l)
filled [] = refl
filled (x ∷ xs) = lt-ltb 0 (suc (length xs)) (omega arith)

-- ---- a range by its name

pub near-range : (low high : ℕ) → low < most → high < most → {r : Range} → r ≡ naturals low high → Near r
near-range low high a b e = subst Near (sym e) (record { low = a; high = b })
