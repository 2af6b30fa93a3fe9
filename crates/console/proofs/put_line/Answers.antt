-- A report is there already, and the line of a refusal fits.
use Rattle.std.proofs.Common.{arith}
use native.Mathlib.Nat.{le_trans}
use Rattle.console.proofs.PrintLaws.{refusal-fits, refused-held, refused-line}
use Rattle.console.proofs.put_line.Goals as goal

pub put_refusal-requires : goal.put_refusal-requires
put_refusal-requires c = le_trans (refusal-fits _ _ (omega arith) (omega arith)) (refused-held c.args.answer c.in-Err.refusal c.args.bytes.now c.in-Err.is c.requires)

pub returns-in-Err-clause-bytes_after : goal.returns-in-Err-clause-bytes_after
returns-in-Err-clause-bytes_after c =
    (refused-line c.args.answer c.in-Err.refusal c.args.bytes.now c.put_refusal.new.out c.put_refusal.result c.number-number.result c.place-place.result c.in-Err.is
    c.number-number.ensures c.place-place.ensures (c.put_refusal.ensures.value, c.put_refusal.ensures.out_after)).1
