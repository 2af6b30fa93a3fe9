-- The answer of the bound by cases to a routine file, to the text of its cuts and to a length of lent memory.
-- (docs/DECISIONS.md, The bound by cases)
use Rattle.refusals.specs.declared.Refusal.{Refusal}
use Rattle.std.specs.Prelude.{◌++◌, Err, Ok, Result, ⊤}
use Rattle.refusals.specs.Library.{ℕ, List}
use Rattle.answers.specs.Terms.{listed, Routine, read_bound, Answer, refused, lending, of_reading, memory_limit, Line, lines, cells, fields, names}
use Rattle.split_theory.specs.Split.{split}
use Rattle.split_cuts.specs.Cuts.{cuts_acceptance, cuts_of}
use Rattle.report.specs.Report.{bound_text}
use Rattle.report_theory.specs.Answers.{of_verdict}

-- the names of the cells of a routine file: those on its lines 10 and 12
unfoldable pub cells_named : List Line → List (List ℕ)
cells_named ls = listed (names cells) ls ++ listed (names fields) ls

-- whether the cuts pass, beside those names
unfoldable pub cuts_checked : List ℕ → List ℕ → Result ⊤ Refusal
cuts_checked text cuts = cuts_acceptance (cells_named (lines text)) cuts

-- the refusal of a check, or the answer after it
unfoldable pub checked : Result ⊤ Refusal → Answer → Answer
checked (Ok tt) a = a
checked (Err r) a = refused r

-- the answer for a routine under the cuts of a text: the report of the bound by cases, PATH `-`, or the first case's 14 or 7
unfoldable pub cases_routine : List ℕ → Routine → Answer
cases_routine cuts x = of_verdict (bound_text x.tick) (split x.code (cuts_of cuts) x.start)

-- the refusals of the cuts come before it
unfoldable pub split_routine : List ℕ → List ℕ → Routine → Answer
split_routine text cuts x = checked (cuts_checked text cuts) (cases_routine cuts x)

-- and those of the routine file, 10 first, before them
unfoldable pub split_answer : List ℕ → List ℕ → ℕ → Answer
split_answer text cuts n = lending memory_limit n (of_reading (split_routine text cuts) (read_bound text))
