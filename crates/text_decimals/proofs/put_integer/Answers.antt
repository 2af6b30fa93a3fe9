-- `text_decimals::put_integer` meets its contract: a minus where the number is below 0, and then its magnitude. Assumes nothing.
use Prim.Native.Nat.{◌+◌}
use mathlib.Core.Path.{sym, ap, ◌∙◌}
use native.Mathlib.Omega.{arith}
use lib.ListN.{length}
use Rattle.text.specs.Text.{bytes}
use Rattle.text_decimals.specs.Decimal.{decimal}
use Rattle.text_decimals.specs.Memory.{over}
use Rattle.text_decimals.proofs.MemoryLaws.{wrote_none, wrote-more}
use Rattle.text_decimals.proofs.IntegerLaws.{integer-negative, integer-natural, integer-signed}
use Rattle.text_decimals.proofs.put_integer.Goals as goal

pub put-e-requires : goal.put-e-requires
put-e-requires c =
    let l = integer-signed c.args.z c.ranges.z c.if-z-lt0.true in
    omega (arith, c.requires)

pub put_decimal-requires : goal.put_decimal-requires
put_decimal-requires c =
    let e = ap length (integer-negative c.args.z c.ranges.z c.magnitude.ensures c.if-z-lt0.true) in
    omega (arith, c.requires, c.put-e.ensures.value, c.put-e.auto.out)

pub returns-then-z-lt0 : goal.returns-then-z-lt0
returns-then-z-lt0 c =
    let e = integer-negative c.args.z c.ranges.z c.magnitude.ensures c.if-z-lt0.true in
    let w0 = wrote_none c.args.out.now c.args.at (omega (arith, c.requires)) in
    let w1 = wrote-more w0 (bytes "-") (c.put-e.ensures.value, c.put-e.ensures.out_after) in
    let w2 = wrote-more w1 (decimal c.magnitude.result) (c.put_decimal.ensures.value, c.put_decimal.ensures.out_after) in
    record { value = w2.ends ∙ ap (λ t. c.args.at + length t) (sym e); out_after = w2.holds ∙ ap (over c.args.out.now c.args.at) (sym e) }

pub put_decimal-requires-2 : goal.put_decimal-requires-2
put_decimal-requires-2 c =
    let e = ap length (integer-natural c.args.z c.ranges.z c.magnitude-2.ensures c.if-z-lt0.false) in
    omega (arith, c.requires)

pub returns : goal.returns
returns c =
    let e = integer-natural c.args.z c.ranges.z c.magnitude-2.ensures c.if-z-lt0.false in
    record { value = c.put_decimal-2.ensures.value ∙ ap (λ t. c.args.at + length t) (sym e); out_after = c.put_decimal-2.ensures.out_after ∙ ap (over c.args.out.now c.args.at) (sym e) }
