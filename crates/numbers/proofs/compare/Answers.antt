-- `numbers::compare` meets its contract: each arm's test is that of its comparison. Assumes nothing.
use mathlib.Core.Path.{◌≡◌, sym, ap, ◌∙◌}
use mathlib.Core.Bool.{Bool, not}
use lib.IntN.{ℤ}
use lib.Signed.{lt_z, le_z}
use mir.Syntax.{w32}
use Rattle.numbers.specs.declared.Comparison.{Comparison}
use Rattle.numbers.specs.Numbers.{holds, bit}
use Rattle.numbers.proofs.SignedLaws.{read, read-both, same_bits, bit-read}
use Rattle.numbers.proofs.compare.Goals as goal

-- the number of a test that says whether the comparison holds
answer : (c : Comparison) (x y : ℤ) {d : Comparison} {t : Bool} {n : ℤ} → c ≡ d → n ≡ bit t → t ≡ holds d x y → read w32 n ≡ bit (holds c x y)
answer c x y {t = t} p q e = ap (read w32) q ∙ bit-read t ∙ ap bit (e ∙ ap (λ d. holds d x y) (sym p))

pub returns-in-Equal : goal.returns-in-Equal
unfolding holds
returns-in-Equal c = answer _ _ _ c.in-Equal.is c.bit.ensures (same_bits w32 _ _ c.ranges.x c.ranges.y)

pub returns-in-Unequal : goal.returns-in-Unequal
unfolding holds
returns-in-Unequal c = answer _ _ _ c.in-Unequal.is c.bit-in-Unequal.ensures (ap not (same_bits w32 _ _ c.ranges.x c.ranges.y))

pub returns-in-Less : goal.returns-in-Less
unfolding holds
returns-in-Less c = answer _ _ _ c.in-Less.is c.bit-in-Less.ensures (read-both lt_z w32 _ _ c.ranges.x c.ranges.y)

pub returns-in-AtMost : goal.returns-in-AtMost
unfolding holds
returns-in-AtMost c = answer _ _ _ c.in-AtMost.is c.bit-in-AtMost.ensures (read-both le_z w32 _ _ c.ranges.x c.ranges.y)

pub returns-in-Greater : goal.returns-in-Greater
unfolding holds
returns-in-Greater c = answer _ _ _ c.in-Greater.is c.bit-in-Greater.ensures (read-both lt_z w32 _ _ c.ranges.y c.ranges.x)

pub returns-in-AtLeast : goal.returns-in-AtLeast
unfolding holds
returns-in-AtLeast c = answer _ _ _ c.in-AtLeast.is c.bit-in-AtLeast.ensures (read-both le_z w32 _ _ c.ranges.y c.ranges.x)
