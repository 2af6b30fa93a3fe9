-- What is promised of the answers of the bound, of the merging bound and of the run to a text, as statements.
use Rattle.std.specs.Prelude.{◌≤◌, ◌⊎◌, ◌≡◌}
use Rattle.refusals.specs.Library.{ℕ, ltb, ℤ, length, take, true, List, Option, some}
use Rattle.bound_theory.specs.Terms.{Refusal, number, Report, Verdict, accepted, bound, opening_limit, begin, after, run, Allowed, State, Cellwise, Forward}
use Rattle.answers.specs.Terms.{body, lines_of_code, Routine, read_bound, read_run, reported, refused, memory_limit, lines, all}
use Rattle.machine.specs.Targets.{Closed}
use Rattle.bound_theory.specs.Promises.{Exact, Safe, NoGreater, SinglePass}
use Rattle.merge_theory.specs.Merge.{Table, merged}
use Rattle.merge_theory.specs.Promises.{NotSmaller, CoversPaths, Gathered, MergedFigures}
use Rattle.file_format.specs.Layout.{layout}
use Rattle.file_format.specs.Routine as readings
use Rattle.report.specs.Report.{share, Rounded, bound_text, run_text}
use Rattle.report_theory.specs.Answers.{bound_answer, merge_answer}

-- a bound of a routine that was read: its verdict from each start. The first bound; and the merging bound, which "takes no BUDGET" (document 02 §9)
abbrev pub Bounding : Type 0
Bounding = Routine → State → Verdict

abbrev pub exploring : Bounding
exploring x = bound x.code x.budget

abbrev pub merging : Bounding
merging x = merged x.code

-- the bytes are a report of the bound M, with the figures q, of the routine x that the text holds
pub record ReportedBy (M : Bounding) (text bytes : List ℕ) (x : Routine) (q : Report) : Type 0 where
  pub reads : read_bound text ≡ readings.routine x
  pub accepts : M x x.start ≡ accepted q
  pub prints : bytes ≡ bound_text x.tick q

abbrev pub BoundReported : List ℕ → List ℕ → Routine → Report → Type 0
BoundReported = ReportedBy exploring

abbrev pub MergeReported : List ℕ → List ℕ → Routine → Report → Type 0
MergeReported = ReportedBy merging

-- the bytes are the run's report, likewise
pub record RunReported (text bytes : List ℕ) (y : Routine) (r : Report) : Type 0 where
  pub reads : read_run text ≡ readings.routine y
  pub accepts : run y.code y.budget y.start y.answers ≡ accepted r
  pub prints : bytes ≡ run_text r

-- demand 3, of the routine x under its report q, with the afresh bound being the bound M: starts from any memory that has the file's cells and no
-- others, agrees with each known one and holds some number in each unknown one; it is fed any list of input answers and interrupted after any
-- number of steps, 0 included
abbrev pub SafeRuns : Bounding → Routine → Report → Type 0
SafeRuns M x q =
    (s : State) → Cellwise Allowed s x.start → (answers : List ℤ) (n : ℕ) →
    Safe x.code (M x) q (begin s answers) n (after x.code n (begin s answers))

-- two files: y is x with numbers for its `?`, and with any answers
pub record FilledIn (y x : Routine) : Type 0 where
  pub budget : y.budget ≡ x.budget
  pub code : y.code ≡ x.code
  pub start : Cellwise Allowed y.start x.start

-- the same with any BUDGET, of which the merging bound takes none
pub record FilledCells (y x : Routine) : Type 0 where
  pub code : y.code ≡ x.code
  pub start : Cellwise Allowed y.start x.start

-- ---- as the public functions promise it, of a text and of the bytes that they report

-- demand 3
abbrev pub SafeBy : Bounding → List ℕ → List ℕ → Type 0
SafeBy M text bytes = (x : Routine) × (q : Report) × ReportedBy M text bytes x q × SafeRuns M x q

abbrev pub SafeReport : List ℕ → List ℕ → Type 0
SafeReport = SafeBy exploring

-- "with the afresh bound being this one" (document 02 §9)
abbrev pub SafeMerge : List ℕ → List ℕ → Type 0
SafeMerge = SafeBy merging

-- "SHARE is CYCLES × 1000 / TICK to the nearest whole number", "at an exact half .. to the even" (document 02 §6): no other number is
abbrev pub NearestShare : Routine → Report → Type 0
NearestShare x q = Rounded x.tick q.cycles (share x.tick q.cycles)

-- demand 2
abbrev pub ExactReport : List ℕ → List ℕ → Type 0
ExactReport text bytes = (x : Routine) × (q : Report) × BoundReported text bytes x q × Exact x.code opening_limit x.start q × NearestShare x q

-- its figures are those of the ways through the merged states, by the table of what comes to each address; `OneTable` says that there is one
abbrev pub ExactMerge : List ℕ → List ℕ → Type 0
ExactMerge text bytes =
    (x : Routine) × (q : Report) × MergeReported text bytes x q
    × (came : Table) × Gathered x.code x.start came × MergedFigures x.code x.start came q × NearestShare x q

-- "Where both bounds accept, this one is never the smaller in cycles, words or depth." (document 02 §9): of the same text. Where the first
-- bound is refused, it is by 8 or 9; there too no path of the machine is above this report
abbrev pub AboveMerge : List ℕ → List ℕ → Type 0
AboveMerge text bytes =
    (x : Routine) × (q : Report) × MergeReported text bytes x q × CoversPaths x.code x.start q
    × ((n : ℕ) (first : List ℕ) → bound_answer text n ≡ reported first → (r : Report) × BoundReported text first x r × NotSmaller r q)
    × ((n : ℕ) (r : Refusal) → memory_limit ≤ n → bound_answer text n ≡ refused r → (number r ≡ 8) ⊎ (number r ≡ 9))

-- the run's figures are no greater than those of a bound that accepts a file which this one fills in
abbrev pub WithinReport : List ℕ → List ℕ → Type 0
WithinReport text bytes =
    (y : Routine) × (r : Report) × RunReported text bytes y r
    × ((x : Routine) (q : Report) → bound x.code x.budget x.start ≡ accepted q → FilledIn y x → NoGreater r q)
    × ((x : Routine) (q : Report) → merged x.code x.start ≡ accepted q → FilledCells y x → NoGreater r q)

-- and where there is such a bound, the run is refused by neither 7 nor 9: with enough bytes lent a report is told; by the merging bound, where
-- the BUDGET of the run is at least its STEPS
abbrev pub RunAccepted : List ℕ → ℕ → Option ℕ → Type 0
RunAccepted text lent told =
    (y : Routine) → read_run text ≡ readings.routine y → memory_limit ≤ lent →
    ((x : Routine) (q : Report) → bound x.code x.budget x.start ≡ accepted q → FilledIn y x → (n : ℕ) × (told ≡ some n))
    × ((x : Routine) (q : Report) → merged x.code x.start ≡ accepted q → FilledCells y x → q.steps ≤ y.budget → (n : ℕ) × (told ≡ some n))

-- ---- of all texts

-- "Once a file passes 1 to 6, the bound does not depend on ANSWER.": two files with the same lines up to the last code line
abbrev pub AnswersIrrelevant : Type 0
AnswersIrrelevant =
    (text text' : List ℕ) (x x' : Routine) → read_bound text ≡ readings.routine x → read_bound text' ≡ readings.routine x' →
    take (length layout) (lines text) ≡ take (length layout) (lines text') → lines_of_code (body (lines text)) ≡ lines_of_code (body (lines text')) →
    (n : ℕ) → (bound_answer text n ≡ bound_answer text' n) × (merge_answer text n ≡ merge_answer text' n)

-- "ASCII": no byte of a text that passes is 128 or more
abbrev pub PassingIsAscii : Type 0
PassingIsAscii = (text : List ℕ) (x : Routine) → read_bound text ≡ readings.routine x → all (λ b. ltb b 128) text ≡ true

-- "only single-pass ticks" (document 02 §8): the code of a text that passes has no jump backwards and none out of it, and runs, traces and
-- trees end within as many steps as the text has code lines
abbrev pub PassingIsSinglePass : Type 0
PassingIsSinglePass =
    (text : List ℕ) (x : Routine) → (read_bound text ≡ readings.routine x) ⊎ (read_run text ≡ readings.routine x) →
    Forward x.code × Closed x.code × SinglePass x.code (length (lines_of_code (body (lines text))))
