-- `text::after_lines` meets its contract.
use Rattle.std.proofs.Common.{arith}
use Rattle.text.specs.Text.{lines}
use Rattle.text.proofs.LineLaws.{drop-next, drop-lines-empty}
use Rattle.text.proofs.after_lines.Goals as goal

pub returns-then-rest-eq0-clause-lines : goal.returns-then-rest-eq0-clause-lines
returns-then-rest-eq0-clause-lines c =
    let l = c.loop in
    drop-lines-empty l.rest.now (lines c.args.s.now) l.counter c.args.k (omega arith) c.if-rest-eq0.true l.invariant.lines

pub loop-preserved : goal.loop-preserved
loop-preserved c =
    let l = c.loop in
    record { lines = drop-next (lines c.args.s.now) (lines l.rest.now) _ l.counter l.invariant.lines c.next_lines-rest.ensures.lines; shorter = omega arith }
