-- What an import answers to words and a primitives line. (document 02, §2)
use Rattle.refusals.specs.declared.Refusal.{Refusal}
use Rattle.std.specs.Prelude.{◌&&◌, ◌∷◌, Err, None, Ok, Option, Result, Some, ⊤}
use Rattle.refusals.specs.Library.{ℕ, length, Bool, cond, not, List, []}
use Rattle.file_format.specs.Terms.{Layout, BadName, Line, lines, line_words, is_empty, all}
use Rattle.refusals.specs.declared.Refusal.TheVariants.{BadWord}
use Rattle.file_format.specs.declared.Section.TheVariants.{Primitives as primitives}
use Rattle.file_format.specs.Layout.{list}
use Rattle.file_format.specs.Rows.{names_laid_out, well_named}
use Rattle.words.specs.Words.{words_of}
use Rattle.words.specs.Decoding.{decoded, items, code_fault}
use Rattle.words.specs.Lines.{code_text}

-- ---- the primitives line

-- laid out as the line of the file: "words are parted by one space", no 33rd name
unfoldable pub line_laid_out : List ℕ → Bool
line_laid_out text = all (λ w. not (is_empty w)) (line_words text) && names_laid_out primitives text

-- 2, then 4, at place 1
unfoldable pub line_verdict : List ℕ → Result ⊤ Refusal
line_verdict text = cond (line_laid_out text) (cond (well_named primitives (list text)) (Ok tt) (Err (BadName 1))) (Err (Layout 1))

-- one line, with or without a final line feed
unfoldable pub one_line_verdict : List Line → Result ⊤ Refusal
one_line_verdict [] = Err (Layout 1)
one_line_verdict (l ∷ []) = line_verdict l.text
one_line_verdict (l ∷ m ∷ ls) = Err (Layout 1)

-- "refuses its primitives line by 2 or 4 at place 1"
unfoldable pub primitives_verdict : List ℕ → Result ⊤ Refusal
primitives_verdict text = one_line_verdict (lines text)

-- the text of the first line
abbrev pub first_text : List Line → List ℕ
first_text [] = []
first_text (l ∷ ls) = l.text

-- the names on the primitives line
unfoldable pub primitives_of : List ℕ → List (List ℕ)
primitives_of text = list (first_text (lines text))

-- ---- the import

-- "New numbers: 12"
unfoldable pub fault_verdict : Option ℕ → Result ⊤ Refusal
fault_verdict None = Ok tt
fault_verdict (Some i) = Err (BadWord i)

-- the first verdict, or the second where the first accepts
unfoldable pub both : Result ⊤ Refusal → Result ⊤ Refusal → Result ⊤ Refusal
both (Ok tt) v = v
both (Err r) v = Err r

-- 2 and 4 of the line, then 12
unfoldable pub import_verdict : List ℕ → List ℕ → Result ⊤ Refusal
import_verdict bs line = both (primitives_verdict line) (fault_verdict (code_fault (length (primitives_of line)) (words_of bs)))

-- what an import makes of words that it accepts
unfoldable pub import_text : List ℕ → List ℕ → List ℕ
import_text bs line = code_text (primitives_of line) (items (decoded (words_of bs)))
