-- What is decided of a routine by the cycles of a bound and by TICK, and how that is printed. (docs/ROUTINE-FILE.md, The decision)
use Rattle.std.specs.Prelude.{◌++◌, ◌≡◌}
use Rattle.refusals.specs.Library.{ℕ, ltb, cond, List}
use Rattle.file_format.specs.Terms.{bytes, decimal}
use Rattle.bound_theory.specs.Tree.{Report}
use Rattle.report.specs.Report.{space, feed}
use Rattle.decide_report.specs.declared.Source.{Source}
use Rattle.decide_report.specs.declared.Source.TheVariants.{First, Merging, Split}

-- column DECISION
pub data Ruling : Type 0 where
  fits over undecided : Ruling

-- CYCLES at most TICK: FITS, by each bound; CYCLES above TICK: OVER by the first bound, UNDECIDED by the merging bound and by the bound
-- by cases, whose cycles may be above the maximum cost
unfoldable pub ruling : Source → ℕ → ℕ → Ruling
ruling First tick cycles = cond (ltb tick cycles) over fits
ruling Merging tick cycles = cond (ltb tick cycles) undecided fits
ruling Split tick cycles = cond (ltb tick cycles) undecided fits

-- the word of a decision
unfoldable pub ruling_word : Ruling → List ℕ
ruling_word fits = bytes "FITS"
ruling_word over = bytes "OVER"
ruling_word undecided = bytes "UNDECIDED"

-- column BOUND: the bound that gives the figures
unfoldable pub source_word : Source → List ℕ
source_word First = bytes "FIRST"
source_word Merging = bytes "MERGING"
source_word Split = bytes "SPLIT"

-- the line of names
abbrev pub decision_names : List ℕ
decision_names = bytes "DECISION BOUND CYCLES TICK WORDS DEPTH STEPS\n"

-- the first two values: what is decided, and by which bound
unfoldable pub decision_words : Source → ℕ → ℕ → List ℕ
decision_words s tick cycles = ruling_word (ruling s tick cycles) ++ space ++ source_word s

-- printed as two lines: the names, and the values in their order
unfoldable pub decision_text : Source → ℕ → Report → List ℕ
decision_text s tick q =
    decision_names ++ decision_words s tick q.cycles ++ space ++ decimal q.cycles ++ space ++ decimal tick ++ space ++ decimal q.words ++ space ++ decimal q.depth ++ space
    ++ decimal q.steps ++ feed

-- the bytes say a decision: its word stands first under the line of names
abbrev pub Says : Ruling → List ℕ → Type 0
Says d bytes = (rest : List ℕ) × (bytes ≡ decision_names ++ ruling_word d ++ space ++ rest)
