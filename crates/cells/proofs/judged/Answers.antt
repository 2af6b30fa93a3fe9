-- `cells::judged` meets its contract. Assumes nothing.
use mathlib.Core.Path.{◌≡◌, refl, sym, ap, ◌∙◌}
use mathlib.Core.Bool.{Bool, true, false}
use lib.IntN.{ℤ, pos}
use mir.Syntax.{w64}
use mir.Val.{SFits}
use mir.ValLaws.{to_z-of_z}
use Rattle.numbers.proofs.SignedLaws.{read}
use Rattle.numbers.specs.declared.Comparison.{Comparison}
use Rattle.cells.specs.declared.Cell.{Cell}
use Rattle.cells.specs.Cells.{range, exactly, always, negated, judged}
use Rattle.cells.proofs.judged.Goals as goal

module _ (c : Comparison) (l h m n : ℤ) where
  -- of what the code reads back
  reads : SFits w64 l → SFits w64 h → SFits w64 m → SFits w64 n → (d : Comparison) {t : Bool} → t ≡ always d (read w64 l) (read w64 h) (read w64 m) (read w64 n) → t ≡ always d l h m n
  reads a b e f d p = rw (to_z-of_z w64 l a, to_z-of_z w64 h b, to_z-of_z w64 m e, to_z-of_z w64 n f) at p

  every : {x : Cell} → always c l h m n ≡ true → x ≡ exactly (pos 1) → x ≡ judged c l h m n
  unfolding judged
  every e p = rw e p

  none : {x : Cell} {d : Comparison} {t : Bool} → always c l h m n ≡ false → d ≡ negated c → t ≡ always d l h m n → t ≡ true → x ≡ exactly (pos 0) → x ≡ judged c l h m n
  unfolding judged
  none e o q s p = rw (e, sym (ap (λ (d : Comparison). always d l h m n) o) ∙ sym q ∙ s) p

  some : {d : Comparison} {t : Bool} → always c l h m n ≡ false → d ≡ negated c → t ≡ always d l h m n → t ≡ false → range (pos 0) 1 ≡ judged c l h m n
  unfolding judged
  some e o q s = rw (e, sym (ap (λ (d : Comparison). always d l h m n) o) ∙ sym q ∙ s) refl

pub returns-then-always : goal.returns-then-always
returns-then-always c =
    every _ _ _ _ _ (sym (reads c.args.c _ _ _ _ c.ranges.l c.ranges.h c.ranges.m c.ranges.n _ c.always.ensures) ∙ c.if-always.true) c.exactly.ensures

pub returns-then-always-2 : goal.returns-then-always-2
returns-then-always-2 c =
    none _ _ _ _ _ (sym (reads c.args.c _ _ _ _ c.ranges.l c.ranges.h c.ranges.m c.ranges.n _ c.always.ensures) ∙ c.if-always.false)
    c.negated.ensures (reads c.args.c _ _ _ _ c.ranges.l c.ranges.h c.ranges.m c.ranges.n _ c.always-2.ensures) c.if-always-2.true c.exactly-then-always-2.ensures

pub returns : goal.returns
returns c =
    some _ _ _ _ _ (sym (reads c.args.c _ _ _ _ c.ranges.l c.ranges.h c.ranges.m c.ranges.n _ c.always.ensures) ∙ c.if-always.false)
    c.negated.ensures (reads c.args.c _ _ _ _ c.ranges.l c.ranges.h c.ranges.m c.ranges.n _ c.always-2.ensures) c.if-always-2.false
