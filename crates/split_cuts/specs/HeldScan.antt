-- The tests of a line as the code takes them.
use Rattle.refusals.specs.Library.{ℕ, Bool, List}
use Rattle.text.specs.Text.{Line}
use Rattle.split_cuts.specs.declared.LineTest.{LineTest}
use Rattle.split_cuts.specs.declared.LineTest.TheVariants.{Layout as layout-test, Range as range-test, Name as name-test}
use Rattle.split_cuts.specs.Cuts.{line_laid_out, line_in_range, line_named}

-- row 2, row 3 or row 4 on the line with an index, where ns are the names of the routine's cells
unfoldable pub line_test : LineTest → List (List ℕ) → ℕ → Line → Bool
line_test layout-test ns = line_laid_out
line_test range-test ns = line_in_range
line_test name-test ns = line_named ns
