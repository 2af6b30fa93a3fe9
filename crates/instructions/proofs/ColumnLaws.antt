-- The table's rule, once for every column. A column of the code is what h gives of each kind in order, and g reads it as f: that g
-- undoes h at each kind is computed for the whole table. And an argument is known by its code and its range. Assumes
-- nothing.
use Rattle.std.specs.Prelude.{Option, Some}
use mathlib.Core.Path.{◌≡◌, refl, sym, ap, ◌∙◌}
use mathlib.Core.Bool.{cond}
use mathlib.Core.List.{List, [], ◌∷◌, map}
use Prim.Native.Nat.{ℕ, zero, suc, ◌<◌, ◌≤◌}
use native.Mathlib.Omega.{arith}
use native.Mathlib.Nat.{le_of_suc-le-suc, not-suc-le-zero}
use lib.Dec.{eqb}
use lib.IntN.{ℤ, pos}
use lib.ListN.{length, get_or, get_or-map}
use mir.Syntax.{Width}
use mir.Val.{of_z, to_z}
use Rattle.text.specs.Text.{place_among, find}
use Rattle.text.proofs.TextLaws.{place-below, find-below}
use Rattle.numbers.specs.declared.Range.{Range}
use Rattle.instructions.specs.declared.Argument.{Argument}
use Rattle.instructions.specs.declared.Argument.TheVariants.{Absent, Target, Primitive, Within}
use Rattle.instructions.specs.Kinds.{addresses, Kind, kinds, kind_names, kind_at}
use Rattle.instructions.specs.HeldColumns.{argument_code, range_of}

-- within a list the default does not matter
pub get_d_any : {A : Type 0} (l : List A) (k : ℕ) (d e : A) → k < length l → get_or l k d ≡ get_or l k e
get_d_any [] k d e h = absurd (not-suc-le-zero h)
get_d_any (x ∷ xs) zero d e h = refl
get_d_any (x ∷ xs) (suc k) d e h = get_d_any xs k d e (le_of_suc-le-suc h)

pub names-count : length kind_names ≡ 61
unfolding kinds kind_names
names-count = refl

pub column-at : {A B : Type 0} (h : Kind → A) (g : A → B) (f : Kind → B) (d : A) → map g (map h kinds) ≡ map f kinds → (k : ℕ) → k < 61 → g (get_or (map h kinds) k d) ≡ f (kind_at k)
unfolding kinds kind_at
column-at h g f d e k l =
    sym (get_or-map g (map h kinds) k d) ∙ ap (λ xs. get_or xs k (g d)) e ∙ get_d_any (map f kinds) k (g d) (f (kind_at 61)) l ∙ get_or-map f kinds k (kind_at 61)

-- the place of a kind's name, as it is found and as an index

pub kind-below : (w : List ℕ) {k : ℕ} → place_among w kind_names ≡ Some k → k < 61
kind-below w e = rw names-count at (place-below 0 w kind_names e)

pub kind-small : (w : List ℕ) → find w kind_names < 61
kind-small w = rw names-count at (find-below w kind_names (rw names-count (omega arith)))

-- a column of natural numbers, and one of integers in w bits

pub natural-at : (f : Kind → ℕ) (k : ℕ) → k < 61 → get_or (map f kinds) k 0 ≡ f (kind_at k)
unfolding kinds
natural-at f k l = column-at f (λ x. x) f 0 refl k l

pub integer-at : (w : Width) (f : Kind → ℤ) → map (λ x. to_z w (of_z w x)) (map f kinds) ≡ map f kinds → (k : ℕ) → k < 61 → to_z w (of_z w (get_or (map f kinds) k (pos 0))) ≡ f (kind_at k)
integer-at w f e k l = column-at f (λ x. to_z w (of_z w x)) f (pos 0) e k l

-- what stands in such a column, as it is read back
pub read_back : (w : Width) (f : Kind → ℤ) → map (λ x. to_z w (of_z w x)) (map f kinds) ≡ map f kinds → (k : ℕ) → k < 61 → {x : ℤ} → x ≡ f (kind_at k) → to_z w (of_z w x) ≡ f (kind_at k)
unfolding kinds
read_back w f e k l q = ap (λ z. to_z w (of_z w z)) (q ∙ sym (column-at f (λ x. x) f (pos 0) refl k l)) ∙ integer-at w f e k l

-- a place holds one kind
pub one_place : {p : Option ℕ} {j k : ℕ} → p ≡ Some j → p ≡ Some k → j ≡ k
one_place e f = cc

-- the argument with a code and a range
abbrev pub decoded : ℕ → Range → Argument
decoded n r = cond (eqb n 0) Absent (cond (eqb n 1) (Within r) (cond (eqb n 2) Target Primitive))

pub decoded-is : (n : ℕ) (a : Argument) → n ≡ argument_code a → decoded n (range_of a) ≡ a
unfolding argument_code range_of
decoded-is n Absent e = rw e refl
decoded-is n (Within r) e = rw e refl
decoded-is n Target e = rw e refl
decoded-is n Primitive e = rw e refl

pub code-bound : (a : Argument) → argument_code a ≤ 3
unfolding argument_code
code-bound Absent = omega arith
code-bound (Within r) = omega arith
code-bound Target = omega arith
code-bound Primitive = omega arith

-- the range of a target
pub target-range : {a b : Argument} {r : Range} → r ≡ range_of b → a ≡ b → a ≡ Target → r ≡ addresses
unfolding range_of
target-range e p q = e ∙ ap range_of (sym p ∙ q)
