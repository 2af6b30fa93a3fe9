-- What the code asks of a range that it draws a number of.
use Rattle.std.specs.Prelude.{◌&&◌}
use Rattle.refusals.specs.Library.{zero, suc, ltb, ℤ, pos, negsuc, mag, non_neg, Bool, true, false}
use Rattle.numbers.specs.declared.Range.{Range}
use Rattle.numbers.specs.Numbers.{bits, half}

-- a number is 0 or below it
abbrev pub starts_low : ℤ → Bool
starts_low (pos zero) = true
starts_low (pos (suc n)) = false
starts_low (negsuc n) = true

-- a range begins at 0 or below it, ends at 0 or above it, and both ends are numbers
abbrev pub sound : Range → Bool
sound r = (starts_low r.low && non_neg r.high) && (ltb (mag r.low) (half bits) && ltb (mag r.high) (half bits))
