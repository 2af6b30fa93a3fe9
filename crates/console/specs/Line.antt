-- What a program prints for an answer of the analyser's functions.
use Rattle.refusals.specs.declared.Refusal.{Refusal}
use Rattle.std.specs.Prelude.{◌≤◌, Err, Ok, Result}
use Rattle.refusals.specs.Library.{ℕ, length, take, List}
use Rattle.answers.specs.Answers.{reported, refused}
use Rattle.answers.specs.Answers as answers
use Rattle.report.specs.Report.{refusal_text}

-- the report at the start of the memory, or the line of the refusal
abbrev pub line : Result ℕ Refusal → List ℕ → List ℕ
line (Ok n) bytes = take n bytes
line (Err r) bytes = refusal_text r

-- the report is within the memory, or a refusal's line fits into it
abbrev pub Held : Result ℕ Refusal → List ℕ → Type 0
Held (Ok n) bytes = n ≤ length bytes
Held (Err r) bytes = 128 ≤ length bytes

-- what is printed for an answer: the bytes of its report, or the line of its refusal
unfoldable pub printed : answers.Answer → List ℕ
printed (reported bs) = bs
printed (refused r) = refusal_text r
