-- `cells::calculate1` meets its contract. Assumes nothing.
use mathlib.Core.Path.{ap}
use lib.IntN.{pos, neg_ℤ, ◌+ℤ◌, ◌-ℤ◌}
use mir.Syntax.{w32}
use mir.ValLaws.{to_z-of_z}
use Rattle.numbers.proofs.SignedLaws.{read-both}
use Rattle.cells.specs.Cells.{calculate₁}
use Rattle.cells.proofs.AnswerLaws.{calculated}
use Rattle.cells.proofs.calculate1.Goals as goal

pub returns-in-Offset : goal.returns-in-Offset
unfolding calculate₁
returns-in-Offset c =
    calculated (λ u. calculate₁ u c.args.i c.args.n) c.args.u c.in-Offset.is c.wrapping_add.ensures
    (read-both ◌+ℤ◌ w32 _ _ c.ranges.n c.ranges.i)

pub returns-in-Negate : goal.returns-in-Negate
unfolding calculate₁
returns-in-Negate c =
    calculated (λ u. calculate₁ u c.args.i c.args.n) c.args.u c.in-Negate.is c.negate.ensures
    (ap neg_ℤ (to_z-of_z w32 _ c.ranges.n))

pub returns-in-Complement : goal.returns-in-Complement
unfolding calculate₁
returns-in-Complement c =
    calculated (λ u. calculate₁ u c.args.i c.args.n) c.args.u c.in-Complement.is c.wrapping_sub.ensures
    (ap (λ z. pos 1 -ℤ z) (to_z-of_z w32 _ c.ranges.n))
