-- Worked examples of numbers: both ends of the range. Assumes nothing.
use mathlib.Core.Path.{◌≡◌, refl}
use mathlib.Core.Bool.{true, false}
use lib.IntN.{pos, negsuc}
use Rattle.numbers.specs.Numbers.{wrap, holds}
use Rattle.numbers.specs.declared.Comparison.TheVariants.{Less, AtLeast, Unequal}

pub examples :
    (wrap (pos 1073741823) ≡ pos 1073741823)
    × (wrap (pos 1073741824) ≡ negsuc 1073741823)
    × (wrap (negsuc 1073741823) ≡ negsuc 1073741823)
    × (wrap (negsuc 1073741824) ≡ pos 1073741823)
    × (wrap (pos 2147483648) ≡ pos 0)
    × (holds Less (negsuc 1073741823) (pos 1073741823) ≡ true)
    × (holds AtLeast (negsuc 0) (pos 0) ≡ false)
    × (holds Unequal (negsuc 0) (pos 0) ≡ true)
unfolding wrap holds
examples = (refl, refl, refl, refl, refl, refl, refl, refl)
