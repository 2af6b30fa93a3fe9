-- Two files of one routine, one of which knows more, and a file that knows all: what is promised of the reports on them, as statements.
-- `proofs/RefinedLaws` proves each by its name. (document 02 §14)
use Rattle.std.specs.Prelude.{◌≤◌, ◌<◌, ◌↔◌, ◌≡◌}
use Rattle.refusals.specs.Library.{ℕ, List, []}
use Rattle.bound_theory.specs.Terms.{Spent, Report, Refines, Cellwise}
use Rattle.answers.specs.Terms.{Routine, read_bound, read_run, Answer, reported, refused, memory_limit}
use Rattle.bound_theory.specs.Promises.{NoGreater}
use Rattle.narrowing_theory.specs.Promises.{Plain, NoCalls}
use Rattle.file_format.specs.Routine as readings
use Rattle.report.specs.Report.{run_text}
use Rattle.report_theory.specs.Answers.{bound_answer, merge_answer, run_answer}
use Rattle.report_theory.specs.Promises.{BoundReported, MergeReported}

-- two starts of one routine with the same cells, where each cell of the first allows only values that the second allows: y has the code of
-- x with the prices, and as many entries, blocks and fields; BUDGET, TICK and ANSWER may be others
pub record Narrows (y x : Routine) : Type 0 where
  pub code : y.code ≡ x.code
  pub start : Cellwise Refines y.start x.start

-- if the second is accepted, so is the first, and its cycles, words, depth and steps are no greater: every other text that passes, narrows x,
-- which has the figures q, and has a BUDGET that serves, is answered by a report with figures no greater
abbrev pub NarrowedTexts : (List ℕ → ℕ → Answer) → (List ℕ → List ℕ → Routine → Report → Type 0) → (ℕ → Type 0) → Routine → Report → Type 0
NarrowedTexts answer Reports Serves x q =
    (text : List ℕ) (y : Routine) → read_bound text ≡ readings.routine y → Narrows y x → Serves y.budget → (n : ℕ) → memory_limit ≤ n →
    (bytes : List ℕ) × (r : Report) × (answer text n ≡ reported bytes) × Reports text bytes y r × NoGreater r q

-- ---- as the public functions promise it, of a text and of the bytes that they report

-- "under the same BUDGET": or a larger one
abbrev pub MonotoneReport : List ℕ → List ℕ → Type 0
MonotoneReport text bytes = (x : Routine) × (q : Report) × BoundReported text bytes x q × NarrowedTexts bound_answer BoundReported (λ budget. x.budget ≤ budget) x q

-- the merging bound "takes no BUDGET" (document 02 §9)
abbrev pub MonotoneMerge : List ℕ → List ℕ → Type 0
MonotoneMerge text bytes = (x : Routine) × (q : Report) × MergeReported text bytes x q × NarrowedTexts merge_answer MergeReported (λ budget. Unit {0}) x q

-- "If every cell is a single number or a handle and no primitive is called, the reported cycles are those of the run": so are the words, the
-- depth and the steps, and PATH is `-`
abbrev pub KnownReport : List ℕ → List ℕ → Type 0
KnownReport text bytes =
    (x : Routine) × (q : Report) × BoundReported text bytes x q
    × (Plain x.start → NoCalls x.code x.budget x.start x.answers → (n : ℕ) → memory_limit ≤ n → (run_answer text n ≡ reported (run_text q)) × (q.path ≡ []))

-- the same of the merging bound, "where neither is refused": it takes no BUDGET, and the run is refused by 9 where its BUDGET is below STEPS
abbrev pub KnownMerge : List ℕ → List ℕ → Type 0
KnownMerge text bytes =
    (x : Routine) × (q : Report) × MergeReported text bytes x q
    × (Plain x.start → NoCalls x.code x.budget x.start x.answers → (n : ℕ) → memory_limit ≤ n →
    (q.steps ≤ x.budget → run_answer text n ≡ reported (run_text q)) × (x.budget < q.steps → (a : ℕ) × (run_answer text n ≡ refused (Spent a))))

-- ---- of all texts

-- "a `?` on line 10, then 12", which are lines 11 and 13 since §1 of document 02; "A run refuses a range of more than one number as it
-- does `?`." (document 02 §12): what the run reads is what the bound reads with a single number or a handle in every cell, and nothing else
abbrev pub RunsKnown : Type 0
RunsKnown = (text : List ℕ) (x : Routine) → (read_run text ≡ readings.routine x) ↔ ((read_bound text ≡ readings.routine x) × Plain x.start)
