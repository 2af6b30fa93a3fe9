-- When a call of the bound by cases is refused, by which number and at which place: in the listed cases and in no other.
-- (docs/DECISIONS.md, The bound by cases)
use Rattle.std.specs.Prelude.{◌≤◌, ◌<◌, ◌↔◌, ◌≡◌, None, Some}
use Rattle.refusals.specs.Library.{ℕ, length, List}
use Rattle.answers.specs.Terms.{Routine, refused, Refusal, TextLength, Layout, OutOfRange, BadName, lines}
use Rattle.file_format.specs.Routine.{bound_checks}
use Rattle.replay_trace.specs.Traces.{earliest}
use Rattle.split_theory.specs.Promises.{FirstRefused}
use Rattle.split_cuts.specs.Cuts.{cuts_limit, line_in_range, line_named, layout_fault, cuts_of}
use Rattle.report_theory.specs.Listed.{ListedCase}
use Rattle.split_entry.specs.Answers.{cells_named, split_answer}

-- "of the cuts 1 at place 0, then 2, 3 and 4, each over the whole text, with the line of the cuts as the place": beside the names ns of the
-- routine's cells, no row before refuses a line, and n is the earliest that this one refuses
pub data CutsRefused (ns : List (List ℕ)) (cuts : List ℕ) (r : Refusal) : Type 0 where
  -- "of at most 4,096 bytes"
  long_cuts : cuts_limit < length cuts → r ≡ TextLength → CutsRefused ns cuts r
  -- the layout, the spelling, a seventeenth cut
  not_laid_out : {n : ℕ} → length cuts ≤ cuts_limit → layout_fault (lines cuts) ≡ Some n → r ≡ Layout n → CutsRefused ns cuts r
  -- a number outside 31 bits
  out_of_range : {n : ℕ} → length cuts ≤ cuts_limit → layout_fault (lines cuts) ≡ None → earliest line_in_range 0 (lines cuts) ≡ Some n → r ≡ OutOfRange n → CutsRefused ns cuts r
  -- "4 is for a name that lines 10 and 12 of the routine file do not have"
  not_named : {n : ℕ} → length cuts ≤ cuts_limit → layout_fault (lines cuts) ≡ None → earliest line_in_range 0 (lines cuts) ≡ None →
      earliest (line_named ns) 0 (lines cuts) ≡ Some n → r ≡ BadName n → CutsRefused ns cuts r

-- of the routine x that a text holds: the cuts' refusals, "then the 14 or 7 of the first case that is refused"
pub data CasesEnd (text cuts : List ℕ) (x : Routine) (r : Refusal) : Type 0 where
  cuts_refuse : CutsRefused (cells_named (lines text)) cuts r → CasesEnd text cuts x r
  case_refuses : ((y : Refusal) → CutsRefused (cells_named (lines text)) cuts y → ⊥) → FirstRefused x.code r (cuts_of cuts) x.start → CasesEnd text cuts x r

-- "Refusals in their order: 10; the routine's 1 to 6 and 13", and those
abbrev pub CasesRefused : List ℕ → List ℕ → ℕ → Refusal → Type 0
CasesRefused text cuts = ListedCase bound_checks (CasesEnd text cuts) text

-- a call is refused in the listed cases and in no other
abbrev pub SplitsListed : Type 0
SplitsListed = (text cuts : List ℕ) (n : ℕ) (r : Refusal) → (split_answer text cuts n ≡ refused r) ↔ CasesRefused text cuts n r
