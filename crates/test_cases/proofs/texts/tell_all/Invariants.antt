-- Each case takes a byte at least.
use Rattle.std.proofs.Common.{length, ◌-◌}
use Rattle.test_cases.proofs.texts.tell_all.Given as goal

abbrev pub decreases-loop-at : goal.decreases-loop-at
decreases-loop-at l = length l.cases - l.at
