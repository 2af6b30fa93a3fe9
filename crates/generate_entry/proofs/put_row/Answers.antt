-- A turn writes one word more and what follows it, and the row is written when none is left.
use Rattle.std.proofs.Common.{arith}
use Rattle.generate_file.proofs.WordLaws.{plain_word}
use Rattle.generate_entry.proofs.RowingLaws.{rowing-next, rowing-ends}
use Rattle.generate_entry.proofs.put_row.Goals as goal

pub put_break-e-requires : goal.put_break-e-requires
put_break-e-requires c = omega (arith, (plain_word c.args.column c.loop-i.i c.next-d.result).short)

pub loop-i-preserved : goal.loop-i-preserved
loop-i-preserved c =
    rowing-next c.loop-i.invariant c.loop-i-test.true c.next-d.ensures (c.put_word-f.ensures.value, c.put_word-f.ensures.out_after) c.put_word-f.auto.out
    (c.put_break-e.ensures.value, c.put_break-e.ensures.out_after) c.put_break-e.auto.out

pub returns-clause-value : goal.returns-clause-value
returns-clause-value c = (rowing-ends c.loop-i.invariant c.loop-i-test.false).0

pub returns-clause-out_after : goal.returns-clause-out_after
returns-clause-out_after c = (rowing-ends c.loop-i.invariant c.loop-i-test.false).1
