-- Worked examples of the draws from seed 1, by computation. Assumes nothing.
use mathlib.Core.Path.{◌≡◌, refl}
use mathlib.Core.List.{[], ◌∷◌}
use Rattle.generate_file.specs.Draws.{next, after}
use Rattle.text.specs.Text.{bytes}
use Rattle.text_decimals.specs.Decimal.{decimal, digits, integer}
use Rattle.instructions.specs.Kinds.{kinds, kind_at}
use Rattle.generate_file.specs.Words.{below, number_in, amount, word, row_from}
use Rattle.generate_file.specs.File.{count, kind_of, target, argument, line_of, code_line, code_from, primitive_prices}

-- the first three draws; the number of lines before the closing STOP; the kinds CONST3, ASSIGN, C_CALL4 of the first lines, and the closing STOP
abbrev pub Examples : Type 0
Examples =
    (after 1 1 ∷ after 2 1 ∷ after 3 1 ∷ [] ≡ 270369 ∷ 67634689 ∷ 2647435461 ∷ [])
    × (count 1 ≡ 169)
    × (kind_of 1 0 ∷ kind_of 1 1 ∷ kind_of 1 2 ∷ kind_of 1 169 ∷ [] ≡ 24 ∷ 20 ∷ 58 ∷ 60 ∷ [])

pub examples : Examples
unfolding next after count kind_of
examples = (refl, refl, refl)

-- seed 26341: its code, and the prices of its primitives. Assumes nothing.
pub small : (code_from 26341 0 4 ≡ bytes "0 C_CALL1 NOISE\n1 BRANCHIF 3\n2 CONSTINT -558024710\n3 STOP -\n") × (primitive_prices 26341 ≡ bytes "READ WRITE CLOCK NOISE\n326 96 738 96\n1 2 2 2\n")
unfolding next after count kind_of target argument line_of code_line code_from kind_at kinds number_in below amount word row_from primitive_prices integer decimal digits
small = (refl, refl)
