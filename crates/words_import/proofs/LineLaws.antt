-- Laws of a line of code as it is written: its ARG by what the kind takes, and how long it is. Assumes nothing.
use Rattle.std.specs.Prelude.{Option}
use mathlib.Core.Path.{◌≡◌, refl, sym, ap, ◌∙◌}
use mathlib.Core.List.{List, [], ◌++◌}
use Prim.Native.Nat.{ℕ, suc, ◌+◌}
use native.Mathlib.Omega.{arith}
use lib.IntN.{ℤ, pos, nat_abs, ◌+ℤ◌}
use lib.ListN.{length, get_or, length-append}
use Rattle.numbers.specs.declared.Range.{Range}
use Rattle.text.specs.Text.{bytes, index_of}
use Rattle.text_decimals.specs.Decimal.{decimal, integer}
use Rattle.instructions.specs.declared.Argument.{Argument}
use Rattle.instructions.specs.declared.Argument.TheVariants.{Absent, Target, Primitive, Within}
use Rattle.words.specs.Held.{number_in}
use Rattle.words_import.specs.HeldLines.{argument_in}

-- ---- ARG

module _ (ps : List (List ℕ)) (t : List ℕ) (i : ℕ) (z : ℤ) {a : Argument} where
  pub argument-absent : a ≡ Absent → argument_in ps t i z a ≡ bytes "-"
  unfolding argument_in
  argument-absent e = rw e refl

  pub argument-target : a ≡ Target → {x y : ℤ} {p : Option ℕ} {n : ℕ} → x ≡ pos (suc i) +ℤ z → y ≡ x → p ≡ number_in t y → n ≡ index_of p → argument_in ps t i z a ≡ decimal n
  unfolding argument_in
  argument-target e {x} {y} {p} {n} f g h k = rw e (sym (ap decimal (k ∙ ap index_of (h ∙ ap (number_in t) (g ∙ f)))))

  pub argument-primitive : a ≡ Primitive → {y : ℤ} {m : ℕ} {w : List ℕ} → y ≡ z → m ≡ nat_abs y → w ≡ get_or ps m [] → argument_in ps t i z a ≡ w
  unfolding argument_in
  argument-primitive e f g h = rw e (sym (h ∙ ap (λ k. get_or ps k []) (g ∙ ap nat_abs f)))

  pub argument-within : {r : Range} → a ≡ Within r → {y : ℤ} → y ≡ z → argument_in ps t i z a ≡ integer y
  unfolding argument_in
  argument-within e f = rw e (ap integer (sym f))

-- ---- the line

pub parts-length : (n k a : List ℕ) → length (n ++ bytes " " ++ k ++ bytes " " ++ a ++ bytes "\n") ≡ length n + 1 + length k + 1 + length a + 1
parts-length n k a = simp length-append (omega arith)
