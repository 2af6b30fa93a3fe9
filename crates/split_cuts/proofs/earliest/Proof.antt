-- `split_cuts::earliest` meets its contract. The loop's invariant: the earliest line that fails is the first that fails of the lines left
-- (`Scanned`). The measure is the length of what is left. Assumes nothing.
use lib.ListN.{length}
use native.Mathlib.Omega.{arith}
use borrow.Author.Rules.{rules}
use mathlib.Core.List.{◌++◌}
use Rattle.file_format.specs.Layout.{list}
use Rattle.split_cuts.specs.HeldScan.{line_test}
use Rattle.replay_trace.proofs.TraceLaws.{Scanned, scan-start, scan-fails, scan-goes, scan-ends}
use Rattle.split_cuts.proofs.earliest.Statement.{statement}
use Rattle.split_cuts.proofs.earliest.Tie as tie

abbrev invariant-loop-rest : tie.invariant-loop-rest
invariant-loop-rest test cuts cells fields rest₀ passed₀ rest passed = Scanned (line_test test (list cells ++ list fields)) cuts rest passed

abbrev decreases-loop-rest : tie.decreases-loop-rest
decreases-loop-rest test cuts cells fields rest₀ passed₀ rest passed = length rest

loop-holds : tie.Need-loop-rest-init invariant-loop-rest decreases-loop-rest
loop-holds c = scan-start _ _

add-passed : tie.Need-overflow_add-passed invariant-loop-rest decreases-loop-rest
add-passed c = let v = c.loop-rest.invariant.size in let r = c.requires in omega arith

loop-less : tie.Need-loop-rest-smaller invariant-loop-rest decreases-loop-rest
loop-less c = let h = c.next_lines-next.ensures.1 in let s = c.loop-rest-test.true in omega arith

loop-again : tie.Need-loop-rest-preserved invariant-loop-rest decreases-loop-rest
loop-again c = scan-goes c.loop-rest.invariant c.loop-rest-test.true c.passes.ensures c.if-passes.true _ c.next_lines-next.ensures.0 c.next_lines-next.ensures.1

add-t11 : tie.Need-overflow_add-result invariant-loop-rest decreases-loop-rest
add-t11 c = let v = c.loop-rest.invariant.size in let r = c.requires in omega arith

cast-t12 : tie.Need-overflow_cast-result invariant-loop-rest decreases-loop-rest
cast-t12 c = let v = c.loop-rest.invariant.size in let r = c.requires in omega arith

returns : tie.Need-returns-else-passes invariant-loop-rest decreases-loop-rest
returns c = scan-fails c.loop-rest.invariant c.loop-rest-test.true c.passes.ensures c.if-passes.false

returns-2 : tie.Need-returns invariant-loop-rest decreases-loop-rest
returns-2 c = scan-ends c.loop-rest.invariant c.loop-rest-test.false

pub earliest_spec : {M : Type 1} → statement M
earliest_spec =
    tie.close
    (tie.spec
    invariant-loop-rest
    decreases-loop-rest
    loop-holds
    (λ c κs. search rules)
    (λ c κs. search rules)
    add-passed
    loop-less
    loop-again
    add-t11
    cast-t12
    returns
    returns-2)
