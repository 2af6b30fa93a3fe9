-- The text of a card's trace: which refusal it has, and the steps that it records. (document 02, §4)
-- Every definition is total: what an accepted text never needs is 0 or empty.
use Rattle.std.specs.Prelude.{◌&&◌, ◌∷◌, Err, None, Ok, Option, Result, Some, ⊤}
use Rattle.refusals.specs.Library.{ℕ, zero, suc, eqb, ltb, length, get_or, drop, Bool, true, cond, List, [], map}
use Rattle.file_format.specs.Terms.{Refusal, TextLength, Layout, OutOfRange, bytes, Line, lines, line_words, equals, numeral}
use Rattle.numbers.specs.declared.Range.{Range}
use Rattle.numbers.specs.Numbers.{naturals, within}
use Rattle.instructions.specs.Kinds.{addresses}
use Rattle.file_format.specs.Rows.{is_numeral, value, at}
use Rattle.file_format.specs.Routine.{natural_in}

-- "a text of its own, of at most 131,072 bytes"
abbrev pub trace_limit : ℕ
trace_limit = 131072

-- "A trace has at most 4,096 lines after its names line"
abbrev pub entry_limit : ℕ
entry_limit = 4096

-- "CYCLES 0 to 4,000,000,000"; "AT is 0 to 62,000", as `addresses` are
abbrev pub cycle_range : Range
cycle_range = naturals 0 4000000000

-- "The card's debug port records each step as a line under the names AT CYCLES": a recorded step
pub record Entry : Type 0 where
  pub at : ℕ
  pub cycles : ℕ

-- "under the names AT CYCLES": AT is the first word, as on a code line, and CYCLES the second
abbrev pub recorded_cycles : List ℕ → List ℕ
recorded_cycles text = get_or (line_words text) 1 []

-- ---- row 2: "a wrong layout there is 2"

-- a recorded step: two numbers parted by one space
unfoldable pub entry_laid_out : List ℕ → Bool
entry_laid_out text = eqb (length (line_words text)) 2 && is_numeral (numeral (at text)) && is_numeral (numeral (recorded_cycles text))

-- the text of the line with index k, from 0: "its names line is line 1"; "at most 4,096 lines after its names line, else refusal 2 at the
-- first line too many"
unfoldable pub text_laid_out : ℕ → List ℕ → Bool
text_laid_out zero text = equals text (bytes "AT CYCLES")
text_laid_out (suc k) text = ltb k entry_limit && entry_laid_out text

-- as in a routine file, a line feed ends each line
unfoldable pub line_laid_out : ℕ → Line → Bool
line_laid_out k l = l.ended && text_laid_out k l.text

-- ---- row 3: "AT is 0 to 62,000 and CYCLES 0 to 4,000,000,000, else refusal 3"

-- a recorded step
unfoldable pub entry_in_range : List ℕ → Bool
entry_in_range text = within addresses (value (at text)) && within cycle_range (value (recorded_cycles text))

-- the text of the line with index k: the names line has no number
unfoldable pub text_in_range : ℕ → List ℕ → Bool
text_in_range zero text = true
text_in_range (suc k) text = entry_in_range text

-- the same of a line
unfoldable pub line_in_range : ℕ → Line → Bool
line_in_range k l = text_in_range k l.text

-- ---- the refusals

-- "with the trace's line as the place": the earliest line that fails a test, counted from 1, where the first of ls has the index k
unfoldable pub earliest : (ℕ → Line → Bool) → ℕ → List Line → Option ℕ
earliest t k [] = None
earliest t k (l ∷ ls) = cond (t k l) (earliest t (suc k) ls) (Some (suc k))

-- "its names line is line 1": a text with no line lacks it there
unfoldable pub layout_fault : List Line → Option ℕ
layout_fault [] = Some 1
layout_fault (l ∷ ls) = earliest line_laid_out 0 (l ∷ ls)

-- row 3 over all lines
unfoldable pub range_fault : List Line → Option ℕ
range_fault ls = earliest line_in_range 0 ls

-- the refusal at the line that a row refuses, or what comes next
unfoldable pub refused_at : Option ℕ → (ℕ → Refusal) → Result ⊤ Refusal → Result ⊤ Refusal
refused_at None r next = next
refused_at (Some n) r next = Err (r n)

-- 2 over all lines, then 3 over all lines
unfoldable pub line_verdict : List Line → Result ⊤ Refusal
line_verdict ls = refused_at (layout_fault ls) Layout (refused_at (range_fault ls) OutOfRange (Ok tt))

-- "at most 131,072 bytes or refusal 1 at place 0" comes first
unfoldable pub trace_acceptance : List ℕ → Result ⊤ Refusal
trace_acceptance text = cond (ltb trace_limit (length text)) (Err TextLength) (line_verdict (lines text))

-- ---- the recorded steps

-- the step that the text of a line records; a number outside its range, which row 3 refuses, counts 0
unfoldable pub entry_of : List ℕ → Entry
entry_of text = record { at = natural_in addresses (at text); cycles = natural_in cycle_range (recorded_cycles text) }

-- "each step as a line under the names": those of the lines after the first
unfoldable pub entries : List ℕ → List Entry
entries text = map (λ l. entry_of l.text) (drop 1 (lines text))
