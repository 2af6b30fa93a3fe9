-- The goals of `merge_sweep::clear`.
use native.Mathlib.Omega.{arith}
use Rattle.merge_sweep.proofs.SweepLaws.{unmarked}
use Rattle.merge_sweep.proofs.clear.Goals as goal

pub returns : goal.returns
returns c = λ b h. unmarked _ _ _ b (c.loop-j.invariant b (omega arith))
