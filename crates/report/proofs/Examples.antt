-- Worked examples of what is printed. Assumes nothing.
use mathlib.Core.Path.{◌≡◌, refl}
use mathlib.Core.List.{[]}
use Rattle.refusals.specs.Refusals.{number, place}
use Rattle.refusals.specs.declared.Refusal.TheVariants.{Spent}
use Rattle.text.specs.Text.{bytes}
use Rattle.text_decimals.specs.Decimal.{digits, decimal}
use Rattle.report.specs.Report.{share, path_text, figures, run_text, refusal_line, refusal_text}
use Rattle.report.specs.HeldPath.{decisions, decode}

pub examples :
    -- "65 cycles with TICK 2000 gives 32, and 67 gives 34"; what is no exact half is not rounded to the even one
    (share 2000 65 ≡ 32)
    × (share 2000 67 ≡ 34)
    × (share 2000 64 ≡ 32)
    × (share 2000 66 ≡ 33)
    × (share 1999 65 ≡ 33)
    × (share 2001 67 ≡ 33)
    × (share 3 1 ≡ 333)
    × (path_text [] ≡ bytes "-")
    × (path_text (decode 1) ≡ bytes "-")
    × (path_text (decode 6) ≡ bytes "NT")
    × (refusal_text (Spent 4102) ≡ bytes "REFUSED 9 4102\n")
    × (run_text (record { cycles = 56; words = 4; depth = 1; steps = 3; path = [] }) ≡ bytes "CYCLES WORDS DEPTH STEPS\n56 4 1 3\n")
unfolding share decisions decode path_text figures run_text refusal_line refusal_text digits decimal number place
examples = (refl, refl, refl, refl, refl, refl, refl, refl, refl, refl, refl, refl)
