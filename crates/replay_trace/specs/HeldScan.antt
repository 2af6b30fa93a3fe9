-- The tests of a line as the code takes them.
use Rattle.refusals.specs.Library.{ℕ, Bool}
use Rattle.text.specs.Text.{Line}
use Rattle.replay_trace.specs.declared.LineTest.{LineTest}
use Rattle.replay_trace.specs.declared.LineTest.TheVariants.{Layout as layout-test, Range as range-test}
use Rattle.replay_trace.specs.Traces.{line_laid_out, line_in_range}

-- row 2 or row 3 on the line with an index
unfoldable pub line_test : LineTest → ℕ → Line → Bool
line_test layout-test = line_laid_out
line_test range-test = line_in_range
