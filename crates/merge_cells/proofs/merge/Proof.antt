-- `merge_cells::merge` meets its contract. Assumes nothing.
use mathlib.Core.Path.{◌≡◌, refl, sym, ap, ap₂, subst, ◌∙◌}
use mathlib.Core.Bool.{Bool, true, false, cond}
use Prim.Native.Nat.{ℕ}
use native.Mathlib.Omega.{arith}
use lib.IntN.{ℤ, pos}
use lib.Signed.{le_z}
use mir.Syntax.{w32, w64}
use mir.Val.{SFits}
use mir.ValLaws.{to_z-of_z}
use borrow.Author.Tests.{eq-eqb, ne_eqb}
use Rattle.numbers.proofs.SignedLaws.{read, read-both}
use Rattle.numbers.proofs.IntegerLaws.{sum_is}
use Rattle.cells.specs.declared.Cell.{Cell}
use Rattle.cells.specs.declared.Value.{Value}
use Rattle.cells.specs.declared.Value.TheVariants.{Range, Handle}
use Rattle.cells.specs.Try.{stuck, done}
use Rattle.cells.specs.Cells.{cell, high, between, handle}
use Rattle.merge_cells.specs.Merge.{lower, upper, merge_values}
use Rattle.cells.specs.HeldConfined.{Confined}
use Rattle.merge_cells.proofs.MergeLaws.{merged-values}
use Rattle.cells.proofs.RangeLaws.{InBits}
use Rattle.cells.proofs.CellLaws.{range-bits}
use Rattle.cells.proofs.ComputeLaws.{bits_fit, bits-few, high-told}
use borrow.Author.Rules.{rules}
use Rattle.merge_cells.proofs.merge.Statement.{statement}
use Rattle.merge_cells.proofs.merge.Tie as tie

-- a range that is confined to numbers, as the code has it
module _ (a : Cell) (l : ℤ) (m : ℕ) (held : a.value ≡ Range l m) (c : Confined a) (f : SFits w32 l) where
  in-bits : InBits l m
  in-bits = range-bits (subst (λ (v : Value). Confined (cell v)) held c)

  high-32 : SFits w32 (high l m)
  high-32 = let b = in-bits in let s = sum_is l (pos m) in bits_fit (high l m) 0 (record { above = omega (arith, b.above); below = omega (arith, b.below) })

  module _ {r : ℤ} (e : r ≡ high (read w32 l) m) where
    pub cast-top : SFits w32 (read w64 r)
    cast-top = rw (high-told l m f (bits-few l m in-bits) e) high-32

    pub top-is : read w32 (read w64 r) ≡ high l m
    top-is = ap (read w32) (high-told l m f (bits-few l m in-bits) e) ∙ to_z-of_z w32 (high l m) high-32

-- the smaller and the larger of two numbers of 32 bits
either-fits : (t : Bool) (m n : ℤ) → SFits w32 m → SFits w32 n → SFits w32 (cond t m n)
either-fits true m n f g = f
either-fits false m n f g = g

module _ (a b : Cell) (l : ℤ) (m : ℕ) (k : ℤ) (n : ℕ) (p : a.value ≡ Range l m) (q : b.value ≡ Range k n) (f : SFits w32 l) (g : SFits w32 k) (h : SFits w32 (high l m)) (j : SFits w32 (high k n)) where
  pub merged : {x y r s : ℤ} {z : Cell} → r ≡ high l m → s ≡ high k n → x ≡ upper r s → y ≡ lower (read w32 l) (read w32 k) → z ≡ between (read w32 y) (read w32 x)
      → done z ≡ merge_values (Range l m) (Range k n)
  unfolding merge_values
  merged {x} {y} d e u v w =
      let top : x ≡ upper (high l m) (high k n) = u ∙ ap₂ upper d e in
      let bottom : y ≡ lower l k = v ∙ read-both lower w32 l k f g in
      ap done
      (w
      ∙ ap₂ between
      (ap (read w32) bottom ∙ to_z-of_z w32 (lower l k) (either-fits (le_z l k) l k f g))
      (ap (read w32) top ∙ to_z-of_z w32 (upper (high l m) (high k n)) (either-fits (le_z (high l m) (high k n)) (high k n) (high l m) j h)))

-- two handles
equal-handles : (j k : ℕ) → j ≡ k → done (handle j) ≡ merge_values (Handle j) (Handle k)
unfolding merge_values
equal-handles j k e = ap (λ (t : Bool). cond t (done (handle j)) stuck) (sym (eq-eqb j k e))

unlike-handles : (j k : ℕ) → (j ≡ k → ⊥) → stuck ≡ merge_values (Handle j) (Handle k)
unfolding merge_values
unlike-handles j k e = ap (λ (t : Bool). cond t (done (handle j)) stuck) (sym (ne_eqb j k e))

cast-upper : tie.Need-overflow_cast-high
cast-upper c =
    let start = c in
    let left = c.in-Range in
    cast-top start.args.a left.low left.more left.is start.requires.0 (search rules) c.high.ensures

cast-upper-2 : tie.Need-overflow_cast-high-in-Range-right
cast-upper-2 c =
    let start = c in
    let right = c.in-Range-right in
    cast-top start.args.b right.low2 right.more2 right.is start.requires.1 (search rules) c.high-in-Range-right.ensures

enum_told : tie.Need-enum_told-1
enum_told c = search rules

returns : tie.Need-returns-in-Range-right
returns c =
    let start = c in
    let left = c.in-Range in
    let right = c.in-Range-right in
    merged-values start.args.a start.args.b left.is right.is
    (merged start.args.a start.args.b left.low left.more right.low2 right.more2 left.is right.is (search rules) (search rules)
    (high-32 start.args.a left.low left.more left.is start.requires.0 (search rules))
    (high-32 start.args.b right.low2 right.more2 right.is start.requires.1 (search rules))
    (top-is start.args.a left.low left.more left.is start.requires.0 (search rules) c.high.ensures)
    (top-is start.args.b right.low2 right.more2 right.is start.requires.1 (search rules) c.high-in-Range-right.ensures)
    c.upper-high.ensures c.lower.ensures c.between.ensures)

returns-2 : tie.Need-returns-in-Handle-right
unfolding merge_values
returns-2 c = merged-values _ _ c.in-Range.is c.in-Handle-right.is refl

returns-3 : tie.Need-returns-in-Range-right-2
unfolding merge_values
returns-3 c = merged-values _ _ c.in-Handle.is c.in-Range-right-2.is refl

returns-4 : tie.Need-returns-then-j-k
returns-4 c =
    let left = c.in-Handle in
    let right = c.in-Handle-right-2 in
    merged-values _ _ left.is right.is (ap done c.handle.ensures ∙ equal-handles left.j right.k c.if-j-k.true)

returns-5 : tie.Need-returns-else-j-k
returns-5 c =
    let left = c.in-Handle in
    let right = c.in-Handle-right-2 in
    merged-values _ _ left.is right.is (unlike-handles left.j right.k c.if-j-k.false)

pub merge_spec : {M : Type 1} → statement M
merge_spec =
    tie.close
    (tie.spec
    (λ c. search rules)
    (λ c. search rules)
    (λ c κs. search rules)
    cast-upper
    (λ c κs. search rules)
    cast-upper-2
    (λ c κs. search rules)
    (λ c κs. search rules)
    (λ c κs. search rules)
    enum_told
    (λ c. search rules)
    (λ c. search rules)
    (λ c. search rules)
    (λ c κs. search rules)
    returns
    returns-2
    returns-3
    returns-4
    returns-5)
