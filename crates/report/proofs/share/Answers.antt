-- `report::share` meets its contract: nothing wraps, TICK is not 0, and each way out is one of the definition's. Assumes nothing.
use mathlib.Core.Path.{sym}
use native.Mathlib.Omega.{arith}
use Rattle.report.proofs.ReportLaws.{share-below, share-above, share-half}
use Rattle.report.proofs.share.Goals as goal

pub returns-then-twice-tick : goal.returns-then-twice-tick
returns-then-twice-tick c = let a = c.args in sym (share-below a.tick a.cycles (omega arith))

pub returns-then-tick-twice : goal.returns-then-tick-twice
returns-then-tick-twice c = let a = c.args in sym (share-above a.tick a.cycles (omega arith))

pub returns-else-tick-twice : goal.returns-else-tick-twice
returns-else-tick-twice c = let a = c.args in sym (share-half a.tick a.cycles (omega arith))
