-- `cells::results` meets its contract. Assumes nothing.
use mathlib.Core.Path.{ap, ◌∙◌}
use lib.IntN.{ℤ, ◌+ℤ◌}
use lib.Signed.{lt_z}
use mir.Syntax.{w32, w64}
use mir.ValLaws.{to_z-of_z}
use native.Mathlib.Omega.{arith}
use Rattle.numbers.specs.Numbers.{numbers}
use Rattle.cells.specs.Cells.{range}
use Rattle.cells.proofs.ComputeLaws.{operands-read, pos-is, results_fit, results-below, results-above, inner-bits, bits_fit, results-inner, tested}
use Rattle.cells.proofs.results.Goals as goal

pub returns-then-low : goal.returns-then-low
returns-then-low c = c.unknown.ensures ∙ results-below _ _ (tested (λ (z : ℤ). lt_z z numbers.low) (to_z-of_z w64 _ c.ranges.low) c.if-low.true)

pub returns-then-low-more : goal.returns-then-low-more
returns-then-low-more c = c.unknown-then-low-more.ensures ∙ results-above _ _ (tested (lt_z numbers.high) (operands-read ◌+ℤ◌ (to_z-of_z w64 _ c.ranges.low) (pos-is _ (omega (arith, c.requires.few))) (results_fit _ _ c.requires)) c.if-low-more.true)

pub returns : goal.returns
returns c =
    let e = to_z-of_z w64 _ c.ranges.low in
    let high = operands-read ◌+ℤ◌ e (pos-is _ (omega (arith, c.requires.few))) (results_fit _ _ c.requires) in
    let b = inner-bits _ c.args.more (tested (λ (z : ℤ). lt_z z numbers.low) e c.if-low.false) (tested (lt_z numbers.high) high c.if-low-more.false) in
    rw e (ap (λ (z : ℤ). range z c.args.more) (to_z-of_z w32 _ (bits_fit _ _ b)) ∙ results-inner _ _ b)
