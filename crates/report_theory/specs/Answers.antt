-- The answer of the bound, of the merging bound and of the run to a text and a length of lent report memory.
-- (document 01, Refusal table; demands 1 and 2)
use Rattle.refusals.specs.Library.{ℕ, List}
use Rattle.bound_theory.specs.Terms.{Report, Verdict, bound, run}
use Rattle.answers.specs.Terms.{Routine, read_bound, read_run, Answer, reported, refused, lending, of_reading, memory_limit}
use Rattle.bound_theory.specs.Tree as verdicts
use Rattle.merge_theory.specs.Merge.{merged}
use Rattle.report.specs.Report.{bound_text, run_text}

-- of a verdict: the text of its report, or its refusal
unfoldable pub of_verdict : (Report → List ℕ) → Verdict → Answer
of_verdict text (verdicts.accepted q) = reported (text q)
of_verdict text (verdicts.refused r) = refused r

-- the bound's answer for a routine: its report, or 7, 8 or 9
unfoldable pub bound_routine : Routine → Answer
bound_routine x = of_verdict (bound_text x.tick) (bound x.code x.budget x.start)

-- the merging bound's: its report, or 14 or 7; "It takes no BUDGET" (document 02 §9)
unfoldable pub merge_routine : Routine → Answer
merge_routine x = of_verdict (bound_text x.tick) (merged x.code x.start)

-- the run's: its report, or 7 or 9
unfoldable pub run_routine : Routine → Answer
run_routine x = of_verdict run_text (run x.code x.budget x.start x.answers)

-- the answer to a text and to n lent bytes
unfoldable pub bound_answer : List ℕ → ℕ → Answer
bound_answer text n = lending memory_limit n (of_reading bound_routine (read_bound text))

-- the same of the merging bound
unfoldable pub merge_answer : List ℕ → ℕ → Answer
merge_answer text n = lending memory_limit n (of_reading merge_routine (read_bound text))

-- the same of the run
unfoldable pub run_answer : List ℕ → ℕ → Answer
run_answer text n = lending memory_limit n (of_reading run_routine (read_run text))
