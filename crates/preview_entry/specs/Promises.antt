-- What is promised of the answers of a preview, as a statement.
use Rattle.std.specs.Prelude.{◌≡◌}
use Rattle.refusals.specs.Library.{ℕ, List}
use Rattle.answers.specs.Terms.{reported, lines}
use Rattle.preview_copy.specs.Patch.{patched}
use Rattle.report_theory.specs.Promises.{SafeReport, ExactReport}
use Rattle.preview_entry.specs.Answers.{preview_answer}

-- a report of a preview is one of the copy, with all that is promised of it (document 02 §10)
abbrev pub PreviewsKept : Type 0
PreviewsKept =
    (text instruction : List ℕ) (address n : ℕ) (bytes : List ℕ) → preview_answer text address instruction n ≡ reported bytes →
    SafeReport (patched (lines text) address instruction) bytes × ExactReport (patched (lines text) address instruction) bytes
