-- The answer of the decision by cases to a routine file, to the text of its cuts and to a length of lent memory.
-- (docs/DECISIONS.md, The bound by cases)
use Rattle.refusals.specs.Library.{ℕ, List}
use Rattle.answers.specs.Terms.{Routine, read_bound, Answer, lending, of_reading, memory_limit}
use Rattle.split_theory.specs.Split.{split}
use Rattle.split_cuts.specs.Cuts.{cuts_of}
use Rattle.report_theory.specs.Answers.{of_verdict}
use Rattle.decide_report.specs.declared.Source.TheVariants.{Split}
use Rattle.decide_report.specs.Decision.{decision_text}
use Rattle.split_entry.specs.Answers.{cuts_checked, checked}

-- the answer for a routine under the cuts of a text: the decision by the figures of the bound by cases, or the first case's 14 or 7
unfoldable pub decide_cases : List ℕ → Routine → Answer
decide_cases cuts x = of_verdict (decision_text Split x.tick) (split x.code (cuts_of cuts) x.start)

-- the refusals of the cuts come before it
unfoldable pub decide_split_routine : List ℕ → List ℕ → Routine → Answer
decide_split_routine text cuts x = checked (cuts_checked text cuts) (decide_cases cuts x)

-- and those of the routine file, 10 first, before them
unfoldable pub decide_split_answer : List ℕ → List ℕ → ℕ → Answer
decide_split_answer text cuts n = lending memory_limit n (of_reading (decide_split_routine text cuts) (read_bound text))
