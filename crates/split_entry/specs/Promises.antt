-- What is promised of the bytes of the bound by cases, in terms of both texts. `proofs/Theorems` proves each by its name.
use Rattle.std.specs.Prelude.{◌≤◌, ◌<◌, ◌≡◌, Err, Ok}
use Rattle.refusals.specs.Library.{ℕ, List}
use Rattle.bound_theory.specs.Terms.{Refusal, ReportMemory, Report, accepted, Allowed, State, Cellwise}
use Rattle.answers.specs.Terms.{Routine, read_bound, reported, refused, memory_limit}
use Rattle.bound_theory.specs.Promises.{NoGreater}
use Rattle.bound_theory.specs.Tree as verdicts
use Rattle.merge_theory.specs.Merge.{merged}
use Rattle.file_format.specs.Routine as readings
use Rattle.split_theory.specs.Split.{Cut, split, Case}
use Rattle.split_theory.specs.Promises.{Among, SplitFigures}
use Rattle.split_cuts.specs.Cuts.{cuts_of}
use Rattle.report.specs.Report.{bound_text}
use Rattle.report_theory.specs.Answers.{merge_answer}
use Rattle.report_theory.specs.Promises.{MergeReported, SafeRuns, NearestShare}
use Rattle.report_theory.specs.Refined.{NarrowedTexts}
use Rattle.split_entry.specs.Answers.{cuts_checked, split_answer}

-- the bytes are the report, with the figures q, of the routine x that the text holds, under the cuts of the second text
pub record SplitReported (text cuts bytes : List ℕ) (x : Routine) (q : Report) : Type 0 where
  pub reads : read_bound text ≡ readings.routine x
  pub passes : cuts_checked text cuts ≡ Ok tt
  pub accepts : split x.code (cuts_of cuts) x.start ≡ accepted q
  pub prints : bytes ≡ bound_text x.tick q

-- demand 3, with the afresh bound being this one under the same cuts
abbrev pub SafeSplit : List ℕ → List ℕ → List ℕ → Type 0
SafeSplit text cuts bytes = (x : Routine) × (q : Report) × SplitReported text cuts bytes x q × SafeRuns (λ y. split y.code (cuts_of cuts)) x q

-- every plain start that the file allows is in one case, and in no other; each figure is the largest over the cases, and attained
abbrev pub ExactSplit : List ℕ → List ℕ → List ℕ → Type 0
ExactSplit text cuts bytes =
    (x : Routine) × (q : Report) × SplitReported text cuts bytes x q
    × SplitFigures x.code (cuts_of cuts) x.start q
    × ((t : State) → Cellwise Allowed t x.start →
    (u : State) × Case (cuts_of cuts) x.start u × Cellwise Allowed t u × ((w : State) → Case (cuts_of cuts) x.start w → Cellwise Allowed t w → w ≡ u))
    × NearestShare x q

-- never above the merging bound of the same text in any figure
abbrev pub BelowMerge : List ℕ → List ℕ → List ℕ → Type 0
BelowMerge text cuts bytes =
    (x : Routine) × (q : Report) × SplitReported text cuts bytes x q
    × ((n : ℕ) (other : List ℕ) → merge_answer text n ≡ reported other → (r : Report) × MergeReported text other x r × NoGreater q r)

-- more cuts never give more, in any order: with these among them, another text of cuts that passes has a report, and no figure is greater
abbrev pub MoreCuts : List ℕ → List ℕ → List ℕ → Type 0
MoreCuts text cuts bytes =
    (x : Routine) × (q : Report) × SplitReported text cuts bytes x q
    × ((more : List ℕ) → cuts_checked text more ≡ Ok tt → ((c : Cut) → Among c (cuts_of cuts) → Among c (cuts_of more)) → (n : ℕ) → memory_limit ≤ n →
    (other : List ℕ) × (r : Report) × (split_answer text more n ≡ reported other) × SplitReported text more other x r × NoGreater r q)

-- knowing more never costs more under the same cuts: every other text that passes and narrows this one has a report, and no figure is greater
abbrev pub MonotoneSplit : List ℕ → List ℕ → List ℕ → Type 0
MonotoneSplit text cuts bytes =
    (x : Routine) × (q : Report) × SplitReported text cuts bytes x q
    × NarrowedTexts (λ narrower. split_answer narrower cuts) (λ narrower. SplitReported narrower cuts) (λ budget. Unit {0}) x q

-- why a call is refused: the memory, the routine file, the cuts, or a case, which the merging bound refuses so
pub data SplitRefusal (text cuts : List ℕ) (n : ℕ) (r : Refusal) : Type 0 where
  by_memory : n < memory_limit → r ≡ ReportMemory → SplitRefusal text cuts n r
  by_file : memory_limit ≤ n → read_bound text ≡ readings.unread r → SplitRefusal text cuts n r
  by_cuts : memory_limit ≤ n → (x : Routine) → read_bound text ≡ readings.routine x → cuts_checked text cuts ≡ Err r → SplitRefusal text cuts n r
  by_case : memory_limit ≤ n → (x : Routine) → read_bound text ≡ readings.routine x → cuts_checked text cuts ≡ Ok tt →
      (u : State) → Case (cuts_of cuts) x.start u → merged x.code u ≡ verdicts.refused r → SplitRefusal text cuts n r

-- ---- of all texts

abbrev pub SplitsKept : Type 0
SplitsKept =
    (text cuts : List ℕ) (n : ℕ) (bytes : List ℕ) → split_answer text cuts n ≡ reported bytes →
    SafeSplit text cuts bytes × ExactSplit text cuts bytes × BelowMerge text cuts bytes × MoreCuts text cuts bytes × MonotoneSplit text cuts bytes

-- accepted wherever the merging bound is
abbrev pub SplitAccepted : Type 0
SplitAccepted =
    (text cuts : List ℕ) (n : ℕ) (other : List ℕ) → merge_answer text n ≡ reported other → cuts_checked text cuts ≡ Ok tt →
    (bytes : List ℕ) × (split_answer text cuts n ≡ reported bytes)

-- refused where a case is, and as it is
abbrev pub SplitsRefused : Type 0
SplitsRefused = (text cuts : List ℕ) (n : ℕ) (r : Refusal) → split_answer text cuts n ≡ refused r → SplitRefusal text cuts n r
