-- `cells::condition_of` meets its contract.
use mathlib.Core.Path.{◌≡◌, refl, sym, ap, ◌∙◌}
use mathlib.Core.Bool.{Bool, true, false, cond, ◌&&◌}
use Prim.Native.Nat.{ℕ, ◌<◌, ◌^◌}
use lib.Dec.{eqb}
use lib.IntN.{ℤ, pos}
use lib.Signed.{le_z, lt_z}
use mir.Syntax.{w32, w64}
use mir.Val.{SFits}
use mir.ValLaws.{to_z-of_z}
use borrow.Author.Tests.{eq-eqb, ne_eqb}
use Rattle.numbers.proofs.SignedLaws.{read}
use Rattle.numbers.proofs.IntegerLaws.{le_yes, le-no, lt-true, lt-false}
use Rattle.cells.specs.declared.Cell.{Cell}
use Rattle.cells.specs.declared.Value.TheVariants.{Range}
use Rattle.cells.specs.declared.Condition.{Condition}
use Rattle.cells.specs.declared.Condition.TheVariants.{IsZero, IsNonzero, IsUnknown}
use Rattle.cells.specs.Try.{Try, done}
use Rattle.cells.specs.Cells.{high, condition_in, condition}
use Rattle.cells.proofs.ComputeLaws.{high-told, tested}
use borrow.Author.Rules.{rules}
use Rattle.cells.proofs.condition_of.Goals as goal

-- the condition of a range, by what the code tests
module _ (a : Cell) (l : ℤ) (m : ℕ) (f : SFits w32 l) (held : a.value ≡ Range l m) where
  of_range : {x : Try Condition} → x ≡ condition_in (Range l m) → x ≡ condition a
  unfolding condition
  of_range e = e ∙ ap condition_in (sym held)

  not_below : lt_z (pos 0) (read w32 l) ≡ false → le_z l (pos 0) ≡ true
  not_below e = le_yes l (pos 0) (lt-false (pos 0) l (tested (lt_z (pos 0)) (to_z-of_z w32 l f) e))

  above : lt_z (pos 0) (read w32 l) ≡ true → done IsNonzero ≡ condition a
  unfolding condition_in
  above e = of_range (ap (λ (t : Bool). done (cond (t && le_z (pos 0) (high l m)) (cond (eqb m 0) IsZero IsUnknown) IsNonzero)) (sym (le-no l (pos 0) (lt-true (pos 0) l (tested (lt_z (pos 0)) (to_z-of_z w32 l f) e)))))

  module _ (few : m < 2 ^ 32) (low : lt_z (pos 0) (read w32 l) ≡ false) {r : ℤ} (top : r ≡ high (read w32 l) m) where
    told : lt_z (read w64 r) (pos 0) ≡ lt_z (high l m) (pos 0)
    told = ap (λ (z : ℤ). lt_z z (pos 0)) (high-told l m f few top)

    under-0 : lt_z (read w64 r) (pos 0) ≡ true → done IsNonzero ≡ condition a
    unfolding condition_in
    under-0 e = of_range (rw (not_below low, le-no (pos 0) (high l m) (lt-true (high l m) (pos 0) (sym told ∙ e))) refl)

    around : lt_z (read w64 r) (pos 0) ≡ false → {x : Condition} → x ≡ cond (eqb m 0) IsZero IsUnknown → done x ≡ condition a
    unfolding condition_in
    around e q = of_range (rw (not_below low, le_yes (pos 0) (high l m) (lt-false (high l m) (pos 0) (sym told ∙ e))) (ap done q))

    zero : lt_z (read w64 r) (pos 0) ≡ false → m ≡ 0 → done IsZero ≡ condition a
    zero e p = around e (rw (eq-eqb m 0 p) refl)

    wide : lt_z (read w64 r) (pos 0) ≡ false → (m ≡ 0 → ⊥) → done IsUnknown ≡ condition a
    wide e n = around e (rw (ne_eqb m 0 n) refl)

pub returns-in_default : goal.returns-in_default
unfolding condition condition_in
returns-in_default c = ap condition_in (sym c.in_default.is)

pub returns-then-low-gt0 : goal.returns-then-low-gt0
returns-then-low-gt0 c =
    let known = c.in-Range in
    above _ _ _ (search rules) known.is c.if-low-gt0.true

pub returns-then-high-lt0 : goal.returns-then-high-lt0
returns-then-high-lt0 c =
    let known = c.in-Range in
    under-0 _ known.low known.more (search rules) known.is (search rules) c.if-low-gt0.false c.high.ensures c.if-high-lt0.true

pub returns-then-more-eq0 : goal.returns-then-more-eq0
returns-then-more-eq0 c =
    let known = c.in-Range in
    zero _ known.low known.more (search rules) known.is (search rules) c.if-low-gt0.false c.high.ensures c.if-high-lt0.false c.if-more-eq0.true

pub returns-else-more-eq0 : goal.returns-else-more-eq0
returns-else-more-eq0 c =
    let known = c.in-Range in
    wide _ known.low known.more (search rules) known.is (search rules) c.if-low-gt0.false c.high.ensures c.if-high-lt0.false c.if-more-eq0.false
