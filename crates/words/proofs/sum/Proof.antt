-- `words::sum` meets its contract. Assumes nothing.
use lib.IntN.{◌+ℤ◌}
use Rattle.numbers.proofs.SignedLaws.{sum_fits, cast_fits, operation-fits, operation-read}
use Rattle.words.proofs.sum.Statement.{statement}
use Rattle.words.proofs.sum.Tie as tie

cast-result : tie.Need-overflow_cast-result
cast-result c = cast_fits c.args.x c.ranges.x

cast-result-2 : tie.Need-overflow_cast-result-2
cast-result-2 c = cast_fits c.args.y c.ranges.y

add-result : tie.Need-overflow_add-result
add-result c = operation-fits ◌+ℤ◌ sum_fits c.ranges.x c.ranges.y

returns : tie.Need-returns
returns c = operation-read ◌+ℤ◌ sum_fits c.ranges.x c.ranges.y

pub sum_spec : {M : Type 1} → statement M
sum_spec = tie.close (tie.spec cast-result cast-result-2 add-result returns)
