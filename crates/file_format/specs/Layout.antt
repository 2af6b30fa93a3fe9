-- What each line of a routine file holds. (document 01, The routine file, the table)
use Rattle.std.specs.Prelude.{◌&&◌, ◌||◌, ◌∷◌, ◌++◌}
use Rattle.refusals.specs.Library.{ℕ, zero, suc, eqb, length, drop, Bool, false, cond, List, [], map}
use Rattle.file_format.specs.Terms.{bytes, Line, line_words, equals, Section, limits, kinds, primitives, cells, fields, instructions, answers, limit, cycles}
use Rattle.file_format.specs.Terms.{words-column, extra, cell, names, values}
use Rattle.file_format.specs.declared.Column.{Column}
use Rattle.file_format.specs.declared.Role.{Role}
use Rattle.file_format.specs.declared.Role.TheVariants.{Code as code, Answer as answer}

-- "Each section is a line of names, then lines of values in that order"
abbrev pub section : Section → List Column → List Role
section s cs = names s ∷ map (values s) cs

-- The table's column "Lines", with the third line of values of the kinds and "Later lines of the file move down by one" (document 02 §1):
-- 1, 2 · 3 to 6 · 7 to 9 · 10, 11 · 12, 13 · 14 on. Every line number follows from this list.
abbrev pub layout : List Role
layout =
    section limits (limit ∷ [])
    ++ section kinds (cycles ∷ words-column ∷ extra ∷ [])
    ++ section primitives (cycles ∷ words-column ∷ [])
    ++ section cells (cell ∷ [])
    ++ section fields (cell ∷ [])
    ++ section instructions []

-- "last, optional", ANSWER: a line of that word alone, after at least one code line
unfoldable pub is_answer : Line → Bool
is_answer l = equals l.text (bytes "ANSWER")

-- the lines after the layout
unfoldable pub body : List Line → List Line
body ls = drop (length layout) ls

-- the lines before the first that is ANSWER
unfoldable pub up_to_answer : List Line → List Line
up_to_answer [] = []
up_to_answer (l ∷ ls) = cond (is_answer l) [] (l ∷ up_to_answer ls)

-- those after it
unfoldable pub past_answer : List Line → List Line
past_answer [] = []
past_answer (l ∷ ls) = cond (is_answer l) ls (past_answer ls)

-- "1 to 1,024 lines": the first line after the layout is a code line, whatever it holds
unfoldable pub lines_of_code : List Line → List Line
lines_of_code [] = []
lines_of_code (l ∷ ls) = l ∷ up_to_answer ls

-- "1 to 64 lines of one number"
unfoldable pub answer_lines : List Line → List Line
answer_lines [] = []
answer_lines (l ∷ ls) = past_answer ls

-- the roles of the lines from answer k on; below ANSWER one answer at least is wanted
unfoldable pub answer_roles : ℕ → List Line → List Role
answer_roles zero [] = answer 0 ∷ []
answer_roles (suc k) [] = []
answer_roles k (l ∷ ls) = answer k ∷ answer_roles (suc k) ls

-- from code line k on
unfoldable pub code_roles : ℕ → List Line → List Role
code_roles k [] = []
code_roles k (l ∷ ls) = cond (is_answer l) (names answers ∷ answer_roles 0 ls) (code k ∷ code_roles (suc k) ls)

-- of all lines after the layout; one code line at least is wanted
unfoldable pub body_roles : List Line → List Role
body_roles [] = code 0 ∷ []
body_roles (l ∷ ls) = code 0 ∷ code_roles 1 ls

-- what the lines of a file hold, line by line; a role past the last line is a line that is missing
unfoldable pub roles : List Line → List Role
roles ls = layout ++ body_roles (body ls)

-- "an empty list is `-` on each of its lines"
unfoldable pub list : List ℕ → List (List ℕ)
list text = cond (equals text (bytes "-")) [] (line_words text)

-- the place of a section in the file
abbrev pub section_place : Section → ℕ
section_place limits = 0
section_place kinds = 1
section_place primitives = 2
section_place cells = 3
section_place fields = 4
section_place instructions = 5
section_place answers = 6

-- the place of a column among the five
abbrev pub column_place : Column → ℕ
column_place limit = 0
column_place cycles = 1
column_place words-column = 2
column_place extra = 3
column_place cell = 4

-- whether a line holds the names of s
abbrev pub is_names : Section → Role → Bool
is_names s (names t) = eqb (section_place s) (section_place t)
is_names s (values t d) = false
is_names s (code k) = false
is_names s (answer k) = false

-- whether it holds column c of s
abbrev pub is_values : Section → Column → Role → Bool
is_values s c (names t) = false
is_values s c (values t d) = eqb (section_place s) (section_place t) && eqb (column_place c) (column_place d)
is_values s c (code k) = false
is_values s c (answer k) = false

-- whether a line of the layout is the one that holds r
abbrev pub is_role : Role → Role → Bool
is_role (names s) x = is_names s x
is_role (values s c) x = is_values s c x
is_role (code k) x = false
is_role (answer k) x = false

-- whether a line lists cells, as lines 11 and 13 do
abbrev pub holds_cells : Role → Bool
holds_cells r = is_values cells cell r || is_values fields cell r

-- the text of the line that holds r; empty where there is no such line
unfoldable pub text_at : Role → List Role → List Line → List ℕ
text_at r [] ls = []
text_at r (x ∷ xs) [] = []
text_at r (x ∷ xs) (l ∷ ls) = cond (is_role r x) l.text (text_at r xs ls)

-- the words listed on the line that holds r
unfoldable pub listed : Role → List Line → List (List ℕ)
listed r ls = list (text_at r layout ls)
