-- `numbers::negate` meets its contract. Assumes nothing.
use mathlib.Core.Path.{◌≡◌}
use lib.IntN.{pos, neg_ℤ, ◌-ℤ◌}
use mir.Syntax.{w32}
use Rattle.numbers.specs.Numbers.{wrap}
use Rattle.numbers.proofs.SignedLaws.{read, wrap-negative, wrap-fits, result-read}
use Rattle.numbers.proofs.negate.Goals as goal

exact : (c : goal.Else-x-gt-HIGHEST) → wrap (neg_ℤ c.args.x) ≡ pos 0 -ℤ read w32 c.args.x
exact c = wrap-negative _ c.ranges.x c.if-x-le-LOWEST.false c.if-x-gt-HIGHEST.false

pub returns : goal.returns
returns c = result-read (wrap-fits _) (exact c)
