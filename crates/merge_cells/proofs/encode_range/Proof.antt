-- `merge_cells::encode_range` meets its contract. Assumes nothing.
use mathlib.Core.Path.{refl, ◌∙◌}
use lib.IntN.{ℤ, ◌+ℤ◌}
use lib.Signed.{lt_z}
use mir.Syntax.{w32}
use mir.ValLaws.{to_z-of_z}
use native.Mathlib.Omega.{arith}
use Rattle.numbers.specs.Numbers.{numbers}
use Rattle.numbers.proofs.SignedLaws.{cast_fits, wide_is}
use Rattle.cells.proofs.ComputeLaws.{operands-fit, operands-read, shifted_fits, counted, results-below, results-past, tested}
use Rattle.merge_cells.proofs.CodeLaws.{encoded-wide, encoded-range}
use borrow.Author.Rules.{rules}
use Rattle.merge_cells.proofs.encode_range.Statement.{statement}
use Rattle.merge_cells.proofs.encode_range.Tie as tie

returns : tie.Need-returns-then-low-lt-LOWEST
returns c =
    let start = c in
    encoded-wide ∙ results-below _ _ (tested (λ (z : ℤ). lt_z z numbers.low) (to_z-of_z w32 _ start.ranges.low) c.if-low-lt-LOWEST.true)

cast-least : tie.Need-overflow_cast-least
cast-least c = cast_fits _ c.ranges.low

add-least : tie.Need-overflow_add-least
add-least c = operands-fit ◌+ℤ◌ (wide_is _ c.ranges.low) refl (shifted_fits _ 0 c.ranges.low)

cast-least-2 : tie.Need-overflow_cast-least-2
cast-least-2 c =
    let start = c in
    let k = counted start.args.low start.ranges.low (operands-read ◌+ℤ◌ (wide_is _ start.ranges.low) refl (shifted_fits _ 0 start.ranges.low)) (tested (λ (z : ℤ). lt_z z numbers.low) (to_z-of_z w32 _ start.ranges.low) c.if-low-lt-LOWEST.false) in
    (k.sign, record { fits = omega (arith, k.few) })

add-greatest : tie.Need-overflow_add-greatest
add-greatest c =
    let start = c in
    let k = counted start.args.low start.ranges.low (operands-read ◌+ℤ◌ (wide_is _ start.ranges.low) refl (shifted_fits _ 0 start.ranges.low)) (tested (λ (z : ℤ). lt_z z numbers.low) (to_z-of_z w32 _ start.ranges.low) c.if-low-lt-LOWEST.false) in
    record { fits = omega (arith, k.few) }

returns-2 : tie.Need-returns-then-greatest
returns-2 c =
    let start = c in
    let k = counted start.args.low start.ranges.low (operands-read ◌+ℤ◌ (wide_is _ start.ranges.low) refl (shifted_fits _ 0 start.ranges.low)) (tested (λ (z : ℤ). lt_z z numbers.low) (to_z-of_z w32 _ start.ranges.low) c.if-low-lt-LOWEST.false) in
    encoded-wide ∙ results-past _ _ _ k.is (omega arith)

returns-3 : tie.Need-returns
returns-3 c =
    let start = c in
    let k = counted start.args.low start.ranges.low (operands-read ◌+ℤ◌ (wide_is _ start.ranges.low) refl (shifted_fits _ 0 start.ranges.low)) (tested (λ (z : ℤ). lt_z z numbers.low) (to_z-of_z w32 _ start.ranges.low) c.if-low-lt-LOWEST.false) in
    encoded-range _ _ _ k.is (omega arith)

pub encode_range_spec : {M : Type 1} → statement M
encode_range_spec =
    tie.close
    (tie.spec
    (λ c. search rules)
    returns
    cast-least
    add-least
    cast-least-2
    add-greatest
    (λ c. search rules)
    (λ c. search rules)
    returns-2
    (λ c. search rules)
    (λ c. search rules)
    returns-3)
