-- What is promised of the file of a seed. `proofs/Theorems` proves each by its name. (document 02 §11)
use Rattle.std.specs.Prelude.{◌≤◌, ◌⊎◌, ◌≡◌}
use Rattle.refusals.specs.Library.{ℕ, length}
use Rattle.refusals.specs.declared.Refusal.TheVariants.{UnknownCell}
use Rattle.text.specs.Text.{lines}
use Rattle.file_format.specs.Routine.{unread, routine, routine_of, text_limit, read_bound, read_run}
use Rattle.generate_file.specs.File.{file}

-- "no file made is refused by 1 to 6 or 13": it is read as a routine, whatever the seed
abbrev pub FilePasses : Type 0
FilePasses = (seed : ℕ) → read_bound (file seed) ≡ routine (routine_of (lines (file seed)))

-- the run reads it too, or refuses it by 11, where it has a `?`, and by nothing else
abbrev pub FileRuns : Type 0
FileRuns = (seed : ℕ) → (read_run (file seed) ≡ routine (routine_of (lines (file seed)))) ⊎ ((k : ℕ) × (read_run (file seed) ≡ unread (UnknownCell k)))

-- so it is no longer than a file may be
abbrev pub FileFits : Type 0
FileFits = (seed : ℕ) → length (file seed) ≤ text_limit
