-- Laws of an argument word: an offset and how far it goes, the line that a target is the address of, and the word by what the kind takes.
-- Assumes nothing.
use Rattle.std.specs.Prelude.{None, Option, Some}
use Prim.Native.Nat.{ℕ, zero, suc, ◌+◌, ◌-◌, ◌<◌, ◌≤◌}
use mathlib.Core.Path.{◌≡◌, refl, sym, ap, ap₂, subst, ◌∙◌}
use mathlib.Core.Bool.{Bool, true, false, cond, false≢true}
use mathlib.Core.List.{List}
use native.Mathlib.Omega.{arith}
use native.Mathlib.Numerals.{add-one}
use lib.Dec.{leb, ltb}
use lib.IntN.{ℤ, pos, negsuc, nat_abs, ◌+ℤ◌, ◌-ℤ◌}
use lib.ListN.{length, get_or}
use lib.Signed.{mag, le_z, lt_z}
use mir.Syntax.{w32}
use mir.Val.{SFits, of_z, to_z}
use mir.ValLaws.{to_z-of_z, to_z_pos}
use borrow.Author.Tests.{le-leb, leb-true, ltb-true, le-ltb}
use Rattle.numbers.specs.declared.Range.{Range}
use Rattle.numbers.specs.Numbers.{numbers, within}
use Rattle.text.specs.Text.{place_among, index_of, find}
use Rattle.text.proofs.TextLaws.{and_left, and_right, place-below}
use Rattle.instructions.specs.Kinds.{addresses, kind_names, kind_at}
use Rattle.instructions.specs.declared.Argument.{Argument}
use Rattle.instructions.specs.declared.Argument.TheVariants.{Absent, Target, Primitive, Within}
use Rattle.file_format.specs.Rows.{value, op, arg, argument_reaches}
use Rattle.file_format.specs.Routine.{inside, argument_value}
use Rattle.file_format.proofs.RangeLaws.{inside_is}
use Rattle.words.specs.Export.{relative, argument_word}
use Rattle.words_export.specs.HeldLines.{line_at, argument_at, Indexed, Leads, CodeLeads}

-- ---- offsets

module _ (t i : ℕ) (h : t < 2048) (k : i < 2048) where
  offset_near : mag (pos t -ℤ pos (suc i)) < 2048
  offset_near = go (ltb t (suc i))
    where
      go : (b : Bool) → mag (cond b (negsuc (suc i - suc t)) (pos (t - suc i))) < 2048
      go true = omega arith
      go false = omega arith

  -- as the code makes it of its two positions
  offset-held : to_z w32 t -ℤ to_z w32 (i + 1) ≡ pos t -ℤ pos (suc i)
  offset-held = ap₂ ◌-ℤ◌ (to_z_pos w32 t (omega arith)) (to_z_pos w32 (i + 1) (omega arith) ∙ ap pos (add-one i))

  pub offset-fits : SFits w32 (to_z w32 t -ℤ to_z w32 (i + 1))
  offset-fits = subst (SFits w32) (sym offset-held) (omega (arith, offset_near))

  pub offset_read : to_z w32 (of_z w32 (to_z w32 t -ℤ to_z w32 (i + 1))) ≡ pos t -ℤ pos (suc i)
  offset_read = to_z-of_z w32 _ offset-fits ∙ offset-held

-- ---- targets

-- an address that is one of n from `first` on, and the number of its line
pub record Address (first n : ℕ) (z : ℤ) : Type 0 where
  pub above : first ≤ nat_abs z
  pub below : nat_abs z < first + n
  pub line : nat_abs (z -ℤ pos first) ≡ nat_abs z - first

difference : (v first : ℕ) → first ≤ v → nat_abs (pos v -ℤ pos first) ≡ v - first
difference v zero h = omega arith
difference v (suc b) h = ap (λ t. nat_abs (cond t (negsuc (suc b - suc v)) (pos (v - suc b)))) (le-ltb v (suc b) h)

address-of : (first n : ℕ) → first ≤ 60000 → n ≤ 1024 → (z : ℤ) → le_z (pos first) z ≡ true → lt_z z (pos first +ℤ pos n) ≡ true → Address first n (inside addresses z)
address-of first n f g (negsuc v) p q = absurd (false≢true p)
address-of first n f g (pos v) p q =
    let a = leb-true first v p in
    let b = ltb-true v (first + n) q in
    let w : within addresses (pos v) ≡ true = ap (λ t. cond t (leb v 62000) false) (le-leb 0 v (omega arith)) ∙ le-leb v 62000 (omega arith) in
    subst (Address first n) (sym (inside_is addresses (pos v) w)) (record { above = a; below = b; line = difference v first a })

-- so is a target that reaches a line of the code
pub target-address : {is : List ℕ} {first : ℕ} {w : List ℕ} → Indexed is first → Leads first (length is) w Target → Address first (length is) (inside addresses (value w))
unfolding argument_reaches
target-address {is} {first} {w} x l =
    let p = le_z (pos first) (value w) in
    let q = lt_z (value w) (pos first +ℤ pos (length is)) in
    address-of first (length is) x.low x.few (value w) (and_left p q l.reaches) (and_right p q l.reaches)

-- the argument of a code line, by what is read of the line
pub leads-by : (text : List ℕ) {first n k : ℕ} {w : List ℕ} → CodeLeads first n text → w ≡ arg text → k ≡ find (op text) kind_names → Leads first n w (kind_at k).argument
leads-by text l e q = rw (e, q) l

-- ---- places

-- a place on a line of n names, or 0
pub place-few : (w : List ℕ) (ws : List (List ℕ)) → find w ws ≤ length ws
unfolding find
place-few w ws = go (place_among w ws) refl
  where
    go : (p : Option ℕ) → place_among w ws ≡ p → index_of p ≤ length ws
    go None e = omega arith
    go (Some n) e = omega (arith, place-below 0 w ws e)

-- ---- the argument word, by what the kind takes

module _ (ps : List (List ℕ)) (is : List ℕ) (first i : ℕ) (w : List ℕ) {a : Argument} where
  pub argument-absent : a ≡ Absent → argument_at ps is first i w a ≡ pos 0
  unfolding argument_at argument_word
  argument-absent e = rw e refl

  pub argument-target : a ≡ Target → argument_at ps is first i w a ≡ pos (get_or is (nat_abs (line_at first w)) 0) -ℤ pos (suc i)
  unfolding argument_at argument_word relative argument_value
  argument-target e = rw e refl

  pub argument-primitive : a ≡ Primitive → argument_at ps is first i w a ≡ pos (find w ps)
  unfolding argument_at argument_word relative argument_value
  argument-primitive e = rw e refl

  pub argument-within : {r : Range} → a ≡ Within r → argument_at ps is first i w a ≡ inside numbers (value w)
  unfolding argument_at argument_word relative argument_value
  argument-within e = rw e refl
