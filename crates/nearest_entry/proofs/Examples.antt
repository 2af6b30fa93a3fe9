-- Worked examples of the line of a change. Assumes nothing.
use mathlib.Core.Path.{◌≡◌, refl}
use lib.IntN.{pos, negsuc}
use Rattle.text.specs.Text.{bytes}
use Rattle.text_decimals.specs.Decimal.{digits, decimal, integer}
use Rattle.nearest_changes.specs.declared.Position.TheVariants.{Accu, Entry, Field}
use Rattle.nearest_entry.specs.Answers.{name_of, line_of}

pub examples :
    (line_of (record { place = Accu; value = negsuc 0 }) ≡ bytes "ACCU -1\n")
    × (line_of (record { place = Entry 31; value = pos 5 }) ≡ bytes "S31 5\n")
    × (line_of (record { place = Field 1 15; value = pos 0 }) ≡ bytes "B1.15 0\n")
unfolding digits decimal integer name_of line_of
examples = (refl, refl, refl)
