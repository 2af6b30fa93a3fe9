-- What the internal functions are handed.
use Rattle.std.specs.Prelude.{◌≡◌}
use Rattle.refusals.specs.Library.{ℕ, List}
use Rattle.text.specs.Text.{lines}
use Rattle.file_format.specs.Routine.{read_bound, routine_of}
use Rattle.file_format.specs.Rows.{Passes}
use Rattle.file_format.specs.Routine as readings

-- a text that passes, and its routine
pub record Read (text : List ℕ) : Type 0 where
  pub passes : Passes (lines text)
  pub reads : read_bound text ≡ readings.routine (routine_of (lines text))
