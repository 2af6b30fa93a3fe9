-- `cells::always` meets its contract. Assumes nothing.
use mathlib.Core.Path.{◌≡◌, sym, ap, ◌∙◌}
use mathlib.Core.Bool.{Bool, true, cond, ◌&&◌}
use lib.IntN.{ℤ}
use lib.Signed.{lt_z, le_z}
use mir.Syntax.{w64}
use borrow.Author.Tests.{eq-eqb, ne_eqb}
use Rattle.numbers.specs.Numbers.{same}
use Rattle.numbers.specs.declared.Comparison.{Comparison}
use Rattle.numbers.proofs.SignedLaws.{read-both, same_bits}
use Rattle.cells.specs.Cells.{always}
use Rattle.cells.proofs.always.Goals as goal

-- the arm of a comparison
arm : (c : Comparison) (l h m n : ℤ) {d : Comparison} {t : Bool} → c ≡ d → t ≡ always d l h m n → t ≡ always c l h m n
arm c l h m n p e = e ∙ ap (λ (d : Comparison). always d l h m n) (sym p)

pub returns-then-l-n : goal.returns-then-l-n
unfolding always
returns-then-l-n c =
    arm _ _ _ _ _ c.in-Equal.is
    (same_bits w64 _ _ c.ranges.h c.ranges.m ∙ ap (λ (t : Bool). t && same c.args.h c.args.m) (sym (eq-eqb _ _ c.if-l-n.true) ∙ same_bits w64 _ _ c.ranges.l c.ranges.n))

pub returns-else-l-n : goal.returns-else-l-n
unfolding always
returns-else-l-n c =
    arm _ _ _ _ _ c.in-Equal.is
    (ne_eqb _ _ c.if-l-n.false ∙ ap (λ (t : Bool). t && same c.args.h c.args.m) (sym (ne_eqb _ _ c.if-l-n.false) ∙ same_bits w64 _ _ c.ranges.l c.ranges.n))

pub returns-then-h-m : goal.returns-then-h-m
unfolding always
returns-then-h-m c =
    arm _ _ _ _ _ c.in-Unequal.is
    (c.if-h-m.true ∙ ap (λ (t : Bool). cond t true (lt_z c.args.n c.args.l)) (sym c.if-h-m.true ∙ read-both lt_z w64 _ _ c.ranges.h c.ranges.m))

pub returns-else-h-m : goal.returns-else-h-m
unfolding always
returns-else-h-m c =
    arm _ _ _ _ _ c.in-Unequal.is
    (read-both lt_z w64 _ _ c.ranges.n c.ranges.l
    ∙ ap (λ (t : Bool). cond t true (lt_z c.args.n c.args.l)) (sym c.if-h-m.false ∙ read-both lt_z w64 _ _ c.ranges.h c.ranges.m))

pub returns-in-Less : goal.returns-in-Less
unfolding always
returns-in-Less c = arm _ _ _ _ _ c.in-Less.is (read-both lt_z w64 _ _ c.ranges.h c.ranges.m)

pub returns-in-AtMost : goal.returns-in-AtMost
unfolding always
returns-in-AtMost c = arm _ _ _ _ _ c.in-AtMost.is (read-both le_z w64 _ _ c.ranges.h c.ranges.m)

pub returns-in-Greater : goal.returns-in-Greater
unfolding always
returns-in-Greater c = arm _ _ _ _ _ c.in-Greater.is (read-both lt_z w64 _ _ c.ranges.n c.ranges.l)

pub returns-in-AtLeast : goal.returns-in-AtLeast
unfolding always
returns-in-AtLeast c = arm _ _ _ _ _ c.in-AtLeast.is (read-both le_z w64 _ _ c.ranges.n c.ranges.l)
