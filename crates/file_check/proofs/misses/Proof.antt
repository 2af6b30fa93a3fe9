-- `file_check::misses` meets its contract. Assumes nothing.
use native.Mathlib.Omega.{arith}
use Rattle.file_check.proofs.ScanLaws.{heading-before}
use borrow.Author.Tests.{lt-ltb, le-ltb, le-leb, lt-leb}
use lib.ListN.{length}
use Rattle.file_format.specs.Layout.{layout}
use Rattle.file_check.specs.HeldScan.{missing}
use Rattle.file_check.proofs.misses.Statement.{statement}
use Rattle.file_check.proofs.misses.Tie as tie

returns : tie.Need-returns-then-i-le-LINES
unfolding missing
returns c = rw (le-leb c.args.i (length layout) c.if-i-le-LINES.true)

add-result : tie.Need-overflow_add-result
add-result c = let h = heading-before _ _ c.requires c.if-heading-gt0.true in let k = c.ranges.i in omega arith

returns-2 : tie.Need-returns-then-heading-gt0
unfolding missing
returns-2 c = rw (lt-leb c.args.i (length layout) c.if-i-le-LINES.false, lt-ltb 0 c.args.heading c.if-heading-gt0.true)

returns-3 : tie.Need-returns-else-heading-gt0
unfolding missing
returns-3 c = rw (lt-leb c.args.i (length layout) c.if-i-le-LINES.false, le-ltb 0 c.args.heading c.if-heading-gt0.false)

pub misses_spec : {M : Type 1} → statement M
misses_spec = tie.close (tie.spec returns add-result returns-2 returns-3)
