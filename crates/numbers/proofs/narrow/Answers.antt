-- `numbers::narrow` meets its contract: the two shifts give what the argument wraps to. Assumes nothing.
use Rattle.numbers.proofs.SignedLaws.{wrap-fits, result-back, narrowed}
use Rattle.numbers.proofs.narrow.Goals as goal

pub returns : goal.returns
returns c = result-back (wrap-fits _) (narrowed c.args.s c.ranges.s)
