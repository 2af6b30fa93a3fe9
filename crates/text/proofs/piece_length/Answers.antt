-- `text::piece_length` meets its contract.
use Rattle.std.proofs.Common.{◌+◌, refl, arith}
use Rattle.text.proofs.ScanLaws.{passed_here, passed-next, passed-end}
use Rattle.text.proofs.piece_length.Goals as goal

pub returns-then-s-i : goal.returns-then-s-i
returns-then-s-i c = passed_here c.args.c c.args.s.now c.loop-i.i c.loop-i.invariant.passed (omega arith) c.if-s-i.true

pub returns-then-s-i-2 : goal.returns-then-s-i-2
returns-then-s-i-2 c =
    let t = c.args.c in
    let s = c.args.s.now in
    let i = c.loop-i.i in
    let p1 = passed-next t s i (i + 1) (omega arith) c.loop-i.invariant.passed (omega arith) c.if-s-i.false in
    passed_here t s (i + 1) p1 (omega arith) c.if-s-i-2.true

pub returns-then-s-i-3 : goal.returns-then-s-i-3
returns-then-s-i-3 c =
    let t = c.args.c in
    let s = c.args.s.now in
    let i = c.loop-i.i in
    let p1 = passed-next t s i (i + 1) (omega arith) c.loop-i.invariant.passed (omega arith) c.if-s-i.false in
    let p2 = passed-next t s (i + 1) (i + 2) (omega arith) p1 (omega arith) c.if-s-i-2.false in
    passed_here t s (i + 2) p2 (omega arith) c.if-s-i-3.true

pub returns-then-s-i-4 : goal.returns-then-s-i-4
returns-then-s-i-4 c =
    let t = c.args.c in
    let s = c.args.s.now in
    let i = c.loop-i.i in
    let p1 = passed-next t s i (i + 1) (omega arith) c.loop-i.invariant.passed (omega arith) c.if-s-i.false in
    let p2 = passed-next t s (i + 1) (i + 2) (omega arith) p1 (omega arith) c.if-s-i-2.false in
    let p3 = passed-next t s (i + 2) (i + 3) (omega arith) p2 (omega arith) c.if-s-i-3.false in
    passed_here t s (i + 3) p3 (omega arith) c.if-s-i-4.true

pub loop-i-preserved : goal.loop-i-preserved
loop-i-preserved c =
    let t = c.args.c in
    let s = c.args.s.now in
    let i = c.loop-i.i in
    let p1 = passed-next t s i (i + 1) (omega arith) c.loop-i.invariant.passed (omega arith) c.if-s-i.false in
    let p2 = passed-next t s (i + 1) (i + 2) (omega arith) p1 (omega arith) c.if-s-i-2.false in
    let p3 = passed-next t s (i + 2) (i + 3) (omega arith) p2 (omega arith) c.if-s-i-3.false in
    record { in_text = omega arith; passed = passed-next t s (i + 3) (i + 4) (omega arith) p3 (omega arith) c.if-s-i-4.false }

pub returns-then-s-k : goal.returns-then-s-k
returns-then-s-k c = passed_here c.args.c c.args.s.now c.loop-k.k c.loop-k.invariant.passed (omega arith) c.if-s-k.true

pub loop-k-preserved : goal.loop-k-preserved
loop-k-preserved c =
    let k = c.loop-k.k in
    record { in_text = omega arith; passed = passed-next c.args.c c.args.s.now k (k + 1) refl c.loop-k.invariant.passed (omega arith) c.if-s-k.false }

pub returns : goal.returns
returns c = omega (arith, passed-end c.args.c c.args.s.now c.loop-k.k c.loop-k.invariant.passed (omega arith))
