-- Laws of a code line: of the argument that OP calls for, and of addresses counted from the first. Assumes nothing.
use Rattle.std.specs.Prelude.{None, Option, Some}
use Prim.Native.Nat.{ℕ, zero, suc, ◌+◌, ◌-◌, ◌<◌, ◌≤◌}
use mathlib.Core.Path.{◌≡◌, refl, sym, ap, ap₂, subst, ◌∙◌}
use mathlib.Core.Bool.{Bool, true, false, cond, ◌&&◌}
use mathlib.Core.List.{List, [], ◌∷◌}
use native.Mathlib.Omega.{arith}
use native.Mathlib.Nat.{eq-or-lt_of_le}
use mathlib.Core.Logic.{⊎_elim}
use lib.Dec.{eqb, leb, ltb}
use lib.IntN.{ℤ, pos, negsuc, nat_abs, ◌+ℤ◌}
use lib.Signed.{mag, le_z, lt_z}
use types.Run.{OneOf, miss}
use denote.Enum.Declared.{tag_of}
use mir.Syntax.{w64}
use mir.Val.{SFits, of_z, to_z}
use mir.ValLaws.{to_z-of_z, to_z_pos}
use borrow.Author.Tests.{eqb-true, eqb-false, leb-true, leb-false, le-leb, lt-leb, ltb-true, ltb-false, le-ltb}
use Rattle.text.specs.Text.{among, place_among}
use Rattle.text_decimals.specs.Decimal.{numeral}
use Rattle.text_decimals.specs.HeldMagnitude.{most}
use Rattle.numbers.specs.declared.Range.{Range}
use Rattle.numbers.specs.Numbers.{naturals, within, same}
use Rattle.instructions.specs.declared.Argument.{Argument}
use Rattle.instructions.specs.declared.Argument.TheVariants.{Absent, Target, Primitive, Within}
use Rattle.instructions.specs.contracts.Argument.{the_type}
use Rattle.instructions.specs.Kinds.{Kind, kinds, kind_names, kind_at}
use Rattle.instructions.specs.HeldColumns.{range_of}
use Rattle.instructions.proofs.ColumnLaws.{column-at}
use Rattle.file_format.specs.Rows.{is_numeral, argument_of, at, op, arg, on_argument, code_in_range, code_named, argument_laid_out, argument_in_range, argument_named, argument_reaches, argument_forward, first_addresses, at_range, value}
use Rattle.text.proofs.TextLaws.{and_left, and_right}
use Rattle.file_values.specs.HeldValues.{Near}
use Rattle.file_format.proofs.RangeLaws.{Natural, natural-within}

-- ---- the argument that OP calls for

-- no test fails where OP is unknown
pub argument-none : (t : Argument → Bool) {p : Option ℕ} → p ≡ None → true ≡ argument_of t p
unfolding argument_of
argument-none t q = sym (ap (argument_of t) q)

-- the kind at k takes the argument a, and x is the test's answer for it
pub argument-some : (t : Argument → Bool) {p : Option ℕ} {k : ℕ} {a : Argument} {x : Bool} → p ≡ Some k → a ≡ (kind_at k).argument → x ≡ t a → x ≡ argument_of t p
unfolding argument_of
argument-some t q e h = h ∙ ap t e ∙ sym (ap (argument_of t) q)

-- the arm of all other arguments knows by the variants' numbers which they are

pub no_number : (w : List ℕ) (a : Argument) → OneOf (0 ∷ 2 ∷ []) (tag_of the_type a) → true ≡ argument_in_range w a
unfolding argument_in_range
no_number w Absent o = refl
no_number w Target o = absurd (miss (0 ∷ 2 ∷ []) 1 tt o)
no_number w Primitive o = refl
no_number w (Within r) o = absurd (miss (0 ∷ 2 ∷ []) 3 tt o)

pub no_call : (ps : List (List ℕ)) (w : List ℕ) (a : Argument) → OneOf (0 ∷ 1 ∷ 3 ∷ []) (tag_of the_type a) → true ≡ argument_named ps w a
unfolding argument_named
no_call ps w Absent o = refl
no_call ps w Target o = refl
no_call ps w Primitive o = absurd (miss (0 ∷ 1 ∷ 3 ∷ []) 2 tt o)
no_call ps w (Within r) o = refl

pub no_target : (first : ℤ) (n : ℕ) (w : List ℕ) (a : Argument) → OneOf (0 ∷ 2 ∷ 3 ∷ []) (tag_of the_type a) → true ≡ argument_reaches first n w a
unfolding argument_reaches
no_target first n w Absent o = refl
no_target first n w Target o = absurd (miss (0 ∷ 2 ∷ 3 ∷ []) 1 tt o)
no_target first n w Primitive o = refl
no_target first n w (Within r) o = refl

pub no_jump : (own : ℤ) (w : List ℕ) (a : Argument) → OneOf (0 ∷ 2 ∷ 3 ∷ []) (tag_of the_type a) → true ≡ argument_forward own w a
unfolding argument_forward
no_jump own w Absent o = refl
no_jump own w Target o = absurd (miss (0 ∷ 2 ∷ 3 ∷ []) 1 tt o)
no_jump own w Primitive o = refl
no_jump own w (Within r) o = refl

-- ---- the ranges of the table

-- that both ends of an argument's range are near 0
near_ends : Kind → Bool
near_ends k = ltb (mag (range_of k.argument).low) most && ltb (mag (range_of k.argument).high) most

ends-near : (k : ℕ) → k < 61 → true ≡ near_ends (kind_at k)
unfolding kinds range_of near_ends
ends-near k h = column-at (λ j. j.name) (λ j. true) near_ends [] refl k h

pub near-at : (k : ℕ) {r : Range} → k < 61 → r ≡ range_of (kind_at k).argument → Near r
unfolding near_ends
near-at k {r} h e =
    let n : true ≡ ltb (mag r.low) most && ltb (mag r.high) most = ends-near k h ∙ ap (λ s. ltb (mag s.low) most && ltb (mag s.high) most) (sym e) in
    let a = ltb (mag r.low) most in
    let b = ltb (mag r.high) most in
    record { low = ltb-true (mag r.low) most (and_left a b (sym n)); high = ltb-true (mag r.high) most (and_right a b (sym n)) }

pub near-at-range : (k : ℕ) → Near (at_range k)
near-at-range zero = record { low = omega arith; high = omega arith }
near-at-range (suc k) = record { low = omega arith; high = omega arith }

-- ---- addresses counted from the first

-- a sum as the machine makes it
module _ (first : ℤ) (m : ℕ) (h : within first_addresses first ≡ true) (k : m ≤ 32768) where
  first-natural : Natural 60000 first
  first-natural = natural-within 0 60000 first h

  first_fits : SFits w64 first
  first_fits = subst (SFits w64) first-natural.is (record { sfits = omega (arith, first-natural.below) })

  first_read : to_z w64 (of_z w64 first) ≡ pos (nat_abs first)
  first_read = to_z-of_z w64 first first_fits ∙ sym first-natural.is

  sum_is : to_z w64 (of_z w64 first) +ℤ to_z w64 m ≡ pos (nat_abs first + m)
  sum_is = ap₂ ◌+ℤ◌ first_read (to_z_pos w64 m (omega arith))

  pub sum_fits : SFits w64 (to_z w64 (of_z w64 first) +ℤ to_z w64 m)
  sum_fits = subst (SFits w64) (sym sum_is) (record { sfits = omega (arith, first-natural.below) })

  sum-read : to_z w64 (of_z w64 (to_z w64 (of_z w64 first) +ℤ to_z w64 m)) ≡ pos (nat_abs first + m)
  sum-read = to_z-of_z w64 _ sum_fits ∙ sum_is

  sum_near : nat_abs first + m < most
  sum_near = omega (arith, first-natural.below)

  sum-exact : pos (nat_abs first + m) ≡ first +ℤ pos m
  sum-exact = ap (λ z. z +ℤ pos m) first-natural.is

-- a range of one number
point : (n : ℕ) (z : ℤ) → within (naturals n n) z ≡ same z (pos n)
point n (pos m) = go (eqb m n) refl (leb n m) refl
  where
    go : (b : Bool) → eqb m n ≡ b → (d : Bool) → leb n m ≡ d → cond d (leb m n) false ≡ b
    go true e true f = let q = eqb-true m n e in le-leb m n (omega arith)
    go true e false f = let q = eqb-true m n e in let l = leb-false n m f in absurd (omega arith)
    go false e true f = let l = leb-true n m f in lt-leb m n (less (eqb-false m n e) l)
      where
        less : (m ≡ n → ⊥) → n ≤ m → n < m
        less g l = ⊎_elim (λ (q : n ≡ m). absurd (g (sym q))) (λ q. q) (eq-or-lt_of_le l)
    go false e false f = refl
point n (negsuc m) = refl

positive : (n : ℕ) → (n ≡ 0 → ⊥) → 0 < n
positive zero g = absurd (g refl)
positive (suc n) g = omega arith

-- one of the n addresses from the first on
module _ (first : ℤ) (n : ℕ) (h : within first_addresses first ≡ true) where
  start : Natural 60000 first
  start = natural-within 0 60000 first h

  reached : (f : ℕ) (z : ℤ) → 0 < n → within (naturals f (f + (n - 1))) z ≡ le_z (pos f) z && lt_z z (pos f +ℤ pos n)
  reached f (pos m) k = go (leb f m)
    where
      last : (b : Bool) → ltb m (f + n) ≡ b → leb m (f + (n - 1)) ≡ b
      last true e = let q = ltb-true m (f + n) e in le-leb m (f + (n - 1)) (omega arith)
      last false e = let q = ltb-false m (f + n) e in lt-leb m (f + (n - 1)) (omega arith)

      go : (b : Bool) → cond b (leb m (f + (n - 1))) false ≡ b && ltb m (f + n)
      go true = last (ltb m (f + n)) refl
      go false = refl
  reached f (negsuc m) k = refl

  reached-some : (z : ℤ) → 0 < n → within (naturals (nat_abs first) (nat_abs first + (n - 1))) z ≡ le_z first z && lt_z z (first +ℤ pos n)
  reached-some z k = reached (nat_abs first) z k ∙ ap (λ f. le_z f z && lt_z z (f +ℤ pos n)) start.is

  none : (f : ℕ) (z : ℤ) → n ≡ 0 → false ≡ le_z (pos f) z && lt_z z (pos f +ℤ pos n)
  none f (pos m) e = go (leb f m) refl
    where
      go : (b : Bool) → leb f m ≡ b → false ≡ b && ltb m (f + n)
      go true q = let l = leb-true f m q in sym (le-ltb m (f + n) (omega arith))
      go false q = refl
  none f (negsuc m) e = refl

  pub reached-none : (z : ℤ) → n ≡ 0 → false ≡ le_z first z && lt_z z (first +ℤ pos n)
  reached-none z e = none (nat_abs first) z e ∙ ap (λ f. le_z f z && lt_z z (f +ℤ pos n)) start.is

-- the ranges as the machine has them: of one sum, and from the first address to a sum

abbrev summed : ℤ → ℕ → ℤ
summed first m = to_z w64 (of_z w64 (to_z w64 (of_z w64 first) +ℤ to_z w64 m))

module _ (first : ℤ) (k : ℕ) (h : within first_addresses first ≡ true) (l : k ≤ 32768) where
  -- the address of code line k
  pub own-near : mag (summed first k) < most
  own-near = subst (λ z. mag z < most) (sym (sum-read first k h l)) (sum_near first k h l)

  pub own_is : summed first k ≡ first +ℤ pos k
  own_is = sum-read first k h l ∙ sum-exact first k h l

  pub sum-range : Near (record { low = summed first k; high = summed first k })
  sum-range =
      subst (λ z. Near (record { low = z; high = z })) (sym (sum-read first k h l)) (record { low = sum_near first k h l; high = sum_near first k h l })

  pub sum-within : {v w : List ℕ} → v ≡ w → within (record { low = summed first k; high = summed first k }) (value v) ≡ same (value w) (first +ℤ pos k)
  sum-within {w = w} e =
      ap₂ (λ z x. within (record { low = z; high = z }) (value x)) (sum-read first k h l) e
      ∙ point (nat_abs first + k) (value w)
      ∙ ap (same (value w)) (sum-exact first k h l)

module _ (first : ℤ) (n : ℕ) (h : within first_addresses first ≡ true) (l : n ≤ 32768) where
  less : n - 1 ≤ 32768
  less = omega arith

  pub reach-range : Near (record { low = to_z w64 (of_z w64 first); high = summed first (n - 1) })
  reach-range =
      subst (λ z. Near (record { low = z; high = summed first (n - 1) })) (sym (first_read first (n - 1) h less))
      (subst (λ z. Near (record { low = pos (nat_abs first); high = z })) (sym (sum-read first (n - 1) h less))
      (record { low = omega (arith, sum_near first (n - 1) h less); high = sum_near first (n - 1) h less }))

  pub reach-within : (n ≡ 0 → ⊥) → (z : ℤ) → within (record { low = to_z w64 (of_z w64 first); high = summed first (n - 1) }) z ≡ le_z first z && lt_z z (first +ℤ pos n)
  reach-within g z =
      ap₂ (λ a b. within (record { low = a; high = b }) z) (first_read first (n - 1) h less) (sum-read first (n - 1) h less)
      ∙ reached-some first n h z (positive n g)

-- ---- the tests of a code line by those of its words

-- a test of the argument w of the kind at p, which OP names
pub on_line : (f : List ℕ → Argument → Bool) (line : List ℕ) {w : List ℕ} {p : Option ℕ} {x : Bool} → w ≡ arg line → p ≡ place_among (op line) kind_names → x ≡ argument_of (f w) p → x ≡ on_argument (f (arg line)) line
unfolding on_argument
on_line f line e q h = h ∙ ap₂ (λ v o. argument_of (f v) o) e q

module _ (k : ℕ) (line : List ℕ) {w : List ℕ} (word : w ≡ at line) where
  pub laid-line : {s a d r : Bool} → s ≡ is_numeral (numeral w) → a ≡ on_argument (argument_laid_out (arg line)) line
      → d ≡ ltb k 1024 && s → r ≡ d && a → r ≡ (ltb k 1024 && is_numeral (numeral (at line)) && on_argument (argument_laid_out (arg line)) line)
  laid-line s-is a-is d-is r-is = r-is ∙ ap₂ ◌&&◌ (d-is ∙ ap (λ b. ltb k 1024 && b) (s-is ∙ ap (λ v. is_numeral (numeral v)) word)) a-is

  pub ranged-line : {g : Range} {s a r : Bool} → g ≡ at_range k → s ≡ within g (value w) → a ≡ on_argument (argument_in_range (arg line)) line → r ≡ s && a → r ≡ code_in_range k line
  unfolding code_in_range
  ranged-line g-is s-is a-is r-is = r-is ∙ ap₂ ◌&&◌ (s-is ∙ ap₂ (λ g v. within g (value v)) g-is word) a-is

  pub named-line : (first : ℤ) (ps : List (List ℕ)) {s o a d r : Bool} → s ≡ same (value w) (first +ℤ pos k) → o ≡ among (op line) kind_names → a ≡ on_argument (argument_named ps (arg line)) line
      → d ≡ s && o → r ≡ d && a → r ≡ code_named first ps k line
  unfolding code_named
  named-line first ps s-is o_is a-is d-is r-is = r-is ∙ ap₂ ◌&&◌ (d-is ∙ ap₂ ◌&&◌ (s-is ∙ ap (λ v. same (value v) (first +ℤ pos k)) word) o_is) a-is
