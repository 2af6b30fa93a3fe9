-- The text of the cuts: which refusal it has, and the cuts that it lists. (docs/DECISIONS.md, The bound by cases)
-- Every definition is total: what an accepted text never needs is 0 or empty.
use Rattle.refusals.specs.declared.Refusal.{Refusal}
use Rattle.std.specs.Prelude.{◌&&◌, ◌∷◌, Err, Ok, Option, Result, Some, ⊤}
use Rattle.refusals.specs.Library.{ℕ, zero, suc, eqb, ltb, ℤ, length, get_or, drop, Bool, true, cond, not, List, [], map}
use Rattle.answers.specs.Terms.{TextLength, Layout, OutOfRange, BadName, bytes, Line, lines, line_words, is_empty, equals, find, numeral}
use Rattle.numbers.specs.Numbers.{within, numbers}
use Rattle.text.specs.Text.{among}
use Rattle.file_format.specs.Rows.{is_numeral, value}
use Rattle.file_format.specs.Routine.{inside}
use Rattle.replay_trace.specs.Traces.{earliest, refused_at}
use Rattle.nearest_changes.specs.Places.{position_of, all_positions}
use Rattle.split_theory.specs.Split.{Cut}
use Rattle.nearest_entry.specs.Answers.{name_of}

-- a text of its own, of at most 4,096 bytes
abbrev pub cuts_limit : ℕ
cuts_limit = 4096

-- at most 16 lines after its names line
abbrev pub cut_limit : ℕ
cut_limit = 16

-- under the names CELL FROM: a cell's name is the first word of a cut's line
abbrev pub cell_name : List ℕ → List ℕ
cell_name text = get_or (line_words text) 0 []

-- and the number from which on its upper part goes is the second
abbrev pub from_word : List ℕ → List ℕ
from_word text = get_or (line_words text) 1 []

-- ---- row 2

-- a cut: a name and a number parted by one space
unfoldable pub cut_laid_out : List ℕ → Bool
cut_laid_out text = eqb (length (line_words text)) 2 && not (is_empty (cell_name text)) && is_numeral (numeral (from_word text))

-- the text of the line with index k, from 0: the names line is line 1, and a seventeenth cut is refused at its line
unfoldable pub text_laid_out : ℕ → List ℕ → Bool
text_laid_out zero text = equals text (bytes "CELL FROM")
text_laid_out (suc k) text = ltb k cut_limit && cut_laid_out text

-- as in a routine file, a line feed ends each line
unfoldable pub line_laid_out : ℕ → Line → Bool
line_laid_out k l = l.ended && text_laid_out k l.text

-- ---- row 3

-- the number of a cut has 31 bits; the names line has none
unfoldable pub text_in_range : ℕ → List ℕ → Bool
text_in_range zero text = true
text_in_range (suc k) text = within numbers (value (from_word text))

-- the same of a line
unfoldable pub line_in_range : ℕ → Line → Bool
line_in_range k l = text_in_range k l.text

-- ---- row 4

-- the name of a cut is one of the names ns, those of the routine's cells; the names line has none
unfoldable pub text_named : List (List ℕ) → ℕ → List ℕ → Bool
text_named ns zero text = true
text_named ns (suc k) text = among (cell_name text) ns

-- the same of a line
unfoldable pub line_named : List (List ℕ) → ℕ → Line → Bool
line_named ns k l = text_named ns k l.text

-- ---- the refusals

-- a text with no line lacks its names line
unfoldable pub layout_fault : List Line → Option ℕ
layout_fault [] = Some 1
layout_fault (l ∷ ls) = earliest line_laid_out 0 (l ∷ ls)

-- 2, 3 and 4, each over all lines, with the line as the place; ns are the names of the routine's cells
unfoldable pub line_verdict : List (List ℕ) → List Line → Result ⊤ Refusal
line_verdict ns ls =
    refused_at (layout_fault ls) Layout (refused_at (earliest line_in_range 0 ls) OutOfRange (refused_at (earliest (line_named ns) 0 ls) BadName (Ok tt)))

-- 1 comes first: over 4,096 bytes, at place 0
unfoldable pub cuts_acceptance : List (List ℕ) → List ℕ → Result ⊤ Refusal
cuts_acceptance ns text = cond (ltb cuts_limit (length text)) (Err TextLength) (line_verdict ns (lines text))

-- ---- the cuts

-- the number of the place, of those that a start can have, that a name stands for; 0 where it is no cell's, which row 4 refuses
unfoldable pub place_number : List ℕ → ℕ
place_number w = find w (map name_of all_positions)

-- the number of a cut; one outside its range, which row 3 refuses, counts 0
abbrev pub cut_number : List ℕ → ℤ
cut_number text = inside numbers (value (from_word text))

-- the cut that the text of a line lists
unfoldable pub cut_of : List ℕ → Cut
cut_of text = record { place = position_of (place_number (cell_name text)); number = cut_number text }

-- those of the lines after the first; the line of names alone lists none
unfoldable pub cuts_of : List ℕ → List Cut
cuts_of text = map (λ l. cut_of l.text) (drop 1 (lines text))
