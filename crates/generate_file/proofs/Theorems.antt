-- What is promised of the file of a seed, by name. Assumes nothing.
use Rattle.std.specs.Prelude.{None, Option, Some}
use mathlib.Core.Path.{◌≡◌, refl}
use mathlib.Core.Logic.{◌⊎◌, inl, inr}
use mathlib.Core.List.{List}
use Prim.Native.Nat.{ℕ, ◌≤◌}
use lib.ListN.{length}
use borrow.Author.Tests.{le-ltb}
use Rattle.refusals.specs.declared.Refusal.TheVariants.{UnknownCell}
use Rattle.text.specs.Text.{lines}
use Rattle.file_format.specs.declared.Row.TheVariants.{Known as known-row}
use Rattle.file_format.specs.Rows.{refused_line, Passes}
use Rattle.file_format.specs.Routine.{unread, routine, routine_of, or_else, checked, text_limit, limited, read_run}
use Rattle.file_format.proofs.RowLaws.{passes-read}
use Rattle.generate_file.specs.File.{file}
use Rattle.generate_file.specs.Promises.{FilePasses, FileRuns, FileFits}
use Rattle.generate_file.proofs.FileLaws.{file-passes, file-short}

pub file-fits : FileFits
file-fits = file-short

pub file-read : FilePasses
file-read seed = passes-read (file seed) (file-passes seed) (file-short seed)

-- the rows before 11 let it through
run-reads : (text : List ℕ) → Passes (lines text) → length text ≤ text_limit → read_run text ≡ or_else (refused_line known-row (lines text)) UnknownCell (routine (routine_of (lines text)))
unfolding read_run limited checked or_else
run-reads text p h = rw (le-ltb text_limit (length text) h, p.layout, p.range, p.names, p.prices, p.targets, p.forward) refl

pub file-runs : FileRuns
unfolding or_else
file-runs seed = go (refused_line known-row (lines (file seed))) (run-reads (file seed) (file-passes seed) (file-short seed))
  where
    go : (r : Option ℕ) → read_run (file seed) ≡ or_else r UnknownCell (routine (routine_of (lines (file seed)))) → (read_run (file seed) ≡ routine (routine_of (lines (file seed)))) ⊎ ((k : ℕ) × (read_run (file seed) ≡ unread (UnknownCell k)))
    go None e = inl e
    go (Some k) e = inr (k, e)
