-- `cells::between` meets its contract. Assumes nothing.
use mathlib.Core.Path.{sym, ap, ap₂, ◌∙◌}
use lib.IntN.{ℤ, nat_abs, ◌-ℤ◌}
use lib.Signed.{lt_z}
use mir.Syntax.{w32}
use mir.ValLaws.{to_z-of_z}
use Rattle.numbers.proofs.SignedLaws.{wide_is, read-both}
use Rattle.cells.specs.Cells.{range}
use Rattle.cells.proofs.ComputeLaws.{operands-read, between-fits, between-above, between-up}
use Rattle.cells.proofs.between.Goals as goal

pub returns-then-high-low : goal.returns-then-high-low
returns-then-high-low c = ap (λ (z : ℤ). range z 0) (to_z-of_z w32 _ c.ranges.low) ∙ between-above _ _ (sym (read-both lt_z w32 _ _ c.ranges.high c.ranges.low) ∙ c.if-high-low.true)

pub returns : goal.returns
returns c =
    ap₂ range (to_z-of_z w32 _ c.ranges.low)
    (ap nat_abs (operands-read ◌-ℤ◌ (wide_is _ c.ranges.high) (wide_is _ c.ranges.low) (between-fits _ _ c.ranges.low c.ranges.high)))
    ∙ between-up _ _ (sym (read-both lt_z w32 _ _ c.ranges.high c.ranges.low) ∙ c.if-high-low.false)
