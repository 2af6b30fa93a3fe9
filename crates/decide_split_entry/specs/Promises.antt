-- What is promised of the bytes of a decision by cases, in terms of both texts. The contract of `decide_split` has each by its name, and
-- `proofs/Theorems` proves what is said of all texts.
use Rattle.std.specs.Prelude.{◌<◌, ◌↔◌, ◌≡◌, Ok}
use Rattle.refusals.specs.Library.{ℕ, List}
use Rattle.answers.specs.Terms.{Routine, read_bound, reported, refused, Refusal}
use Rattle.bound_theory.specs.Tree.{Report, accepted}
use Rattle.file_format.specs.Routine as readings
use Rattle.split_theory.specs.Split.{split}
use Rattle.split_theory.specs.Promises.{SplitFigures}
use Rattle.split_cuts.specs.Cuts.{cuts_of}
use Rattle.decide_report.specs.declared.Source.TheVariants.{Split}
use Rattle.decide_report.specs.Decision.{fits, undecided, decision_text, Says}
use Rattle.decide_entry.specs.Promises.{KeptRuns}
use Rattle.split_entry.specs.Answers.{cuts_checked, split_answer}
use Rattle.decide_split_entry.specs.Answers.{decide_split_answer}

-- the bytes are the decision, with the figures q, on the routine x that the text holds, under the cuts of the second text
pub record DecidedByCases (text cuts bytes : List ℕ) (x : Routine) (q : Report) : Type 0 where
  pub reads : read_bound text ≡ readings.routine x
  pub passes : cuts_checked text cuts ≡ Ok tt
  pub accepts : split x.code (cuts_of cuts) x.start ≡ accepted q
  pub prints : bytes ≡ decision_text Split x.tick q

-- where FITS is answered, every run from any start that the file allows keeps within TICK, WORDS, DEPTH and STEPS
abbrev pub KeepsTickByCases : List ℕ → List ℕ → List ℕ → Type 0
KeepsTickByCases text cuts bytes = Says fits bytes → (x : Routine) × (q : Report) × DecidedByCases text cuts bytes x q × KeptRuns x q

-- where UNDECIDED is answered, the largest CYCLES of the merging bound over the cases, which a case attains, is above TICK
abbrev pub UndecidedByCases : List ℕ → List ℕ → List ℕ → Type 0
UndecidedByCases text cuts bytes =
    Says undecided bytes →
    (x : Routine) × (q : Report) × DecidedByCases text cuts bytes x q × SplitFigures x.code (cuts_of cuts) x.start q × (x.tick < q.cycles)

-- ---- of all texts

abbrev pub SplitDecisionsKept : Type 0
SplitDecisionsKept =
    (text cuts : List ℕ) (n : ℕ) (bytes : List ℕ) → decide_split_answer text cuts n ≡ reported bytes → KeepsTickByCases text cuts bytes × UndecidedByCases text cuts bytes

-- refused exactly where the bound by cases is, and as it is
abbrev pub SplitDecisionRefused : Type 0
SplitDecisionRefused = (text cuts : List ℕ) (n : ℕ) (r : Refusal) → (decide_split_answer text cuts n ≡ refused r) ↔ (split_answer text cuts n ≡ refused r)
