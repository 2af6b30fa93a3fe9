-- `cells::least1` meets its contract. Assumes nothing.
use mathlib.Core.Path.{refl}
use lib.IntN.{pos, ◌+ℤ◌, ◌-ℤ◌}
use native.Mathlib.Omega.{arith}
use Rattle.numbers.proofs.SignedLaws.{wide_is}
use Rattle.cells.proofs.ComputeLaws.{operands-read, near-64, sum_near, from-near, high-told, least-offset, least-negate, least-complement}
use Rattle.cells.proofs.least1.Goals as goal

pub returns-in-Offset : goal.returns-in-Offset
returns-in-Offset c =
    least-offset _ _ _ c.in-Offset.is refl (operands-read ◌+ℤ◌ (wide_is _ c.ranges.low) (wide_is _ c.ranges.i) (near-64 _ (sum_near _ _ c.ranges.low c.ranges.i)))

pub returns-in-Negate : goal.returns-in-Negate
returns-in-Negate c =
    least-negate _ _ _ c.in-Negate.is refl
    (operands-read ◌-ℤ◌ {x = pos 0} refl (high-told c.args.low c.args.more c.ranges.low (omega arith) c.high.ensures) (from-near 0 c.args.low c.args.more (omega arith) c.ranges.low (omega arith)))

pub returns-in-Complement : goal.returns-in-Complement
returns-in-Complement c =
    least-complement _ _ _ c.in-Complement.is refl
    (operands-read ◌-ℤ◌ {x = pos 1} refl (high-told c.args.low c.args.more c.ranges.low (omega arith) c.high-in-Complement.ensures) (from-near 1 c.args.low c.args.more (omega arith) c.ranges.low (omega arith)))
