-- Files with what the bound or the run prints for them: the cases that document 01 marks with a star, then others of documents 01 and 02.
use Rattle.std.specs.Prelude.{◌∷◌, ◌++◌}
use Rattle.refusals.specs.Library.{ℕ, String, Bool, true, false, List, []}
use Rattle.text.specs.Text.{bytes, equals}
use Rattle.report_theory.specs.Answers.{bound_answer, run_answer}
use Rattle.console.specs.Line.{printed}

-- a text by its lines
abbrev pub file : List String → List ℕ
file [] = []
file (l ∷ ls) = bytes l ++ bytes "\n" ++ file ls

-- which program reads it, with 128 lent bytes
pub data Program : Type 0 where
  bound : Program
  run : Program

-- whether document 01 marks the case with a star; the case; the program, the file and the bytes that are printed
pub record Row : Type 0 where
  pub is_starred : Bool
  pub name : String
  pub program : Program
  pub text : List ℕ
  pub prints : List ℕ

abbrev row : Bool → String → Program → List ℕ → List String → Row
row starred name program text lines = record { is_starred = starred; name = name; program = program; text = text; prints = file lines }

-- "Those marked * go into one table, shown by a single proof to follow from the definitions."
abbrev starred : String → Program → List ℕ → List String → Row
starred = row true

abbrev other : String → Program → List ℕ → List String → Row
other = row false

-- what is printed
unfoldable pub answered : Program → List ℕ → List ℕ
answered bound text = printed (bound_answer text 128)
answered run text = printed (run_answer text 128)

unfoldable pub passes : Row → Bool
passes r = equals (answered r.program r.text) r.prints

-- ---- what is printed, by its lines

abbrev report : String → List String
report values = "CYCLES WORDS DEPTH STEPS SHARE PATH" ∷ values ∷ []

abbrev run_report : String → List String
run_report values = "CYCLES WORDS DEPTH STEPS" ∷ values ∷ []

-- ---- files

-- the published file, with its limits, its cells and its answers
abbrev published : String → String → List String → List ℕ
published limits start answers =
    file
    ("BUDGET TICK" ∷ limits ∷
    "C_CALL1 BRANCHIF CONST2 ADDINT STOP" ∷ "10 5 2 7 1" ∷ "0 0 0 0 0" ∷ "0 0 0 0 0" ∷
    "READ" ∷ "40" ∷ "4" ∷
    "ACCU S0" ∷ start ∷
    "-" ∷ "-" ∷
    "AT OP ARG" ∷ "0 C_CALL1 READ" ∷ "1 BRANCHIF 4" ∷ "2 CONST2 -" ∷ "3 ADDINT -" ∷ "4 STOP -" ∷ answers)

-- a file with no primitive and no block: the limits, the kinds with their cycles, words and extras, the cells, the code
abbrev small : String → String → String → String → String → String → String → List String → List ℕ
small limits kinds cycles words extras names cells code =
    file ("BUDGET TICK" ∷ limits ∷ kinds ∷ cycles ∷ words ∷ extras ∷ "-" ∷ "-" ∷ "-" ∷ names ∷ cells ∷ "-" ∷ "-" ∷ "AT OP ARG" ∷ code)

-- case 2, with its limits, its extras and its accumulator
abbrev one_branch : String → String → String → List ℕ
one_branch limits extras accu = small limits "BRANCHIF STOP" "5 1" "0 0" extras "ACCU" accu ("0 BRANCHIF 1" ∷ "1 STOP -" ∷ [])

-- case 3, with its limits and its cycles
abbrev one_stop : String → String → List ℕ
one_stop limits cycles = small limits "STOP" cycles "0" "0" "ACCU" "0" ("0 STOP -" ∷ [])

-- case 4, with its extras
abbrev two_calls : String → List ℕ
two_calls extras =
    file
    ("BUDGET TICK" ∷ "1000 1000" ∷
    "BRANCHIF C_CALL1 STOP" ∷ "1 1 1" ∷ "0 0 0" ∷ extras ∷
    "A B" ∷ "10 4" ∷ "1 9" ∷
    "ACCU" ∷ "?" ∷
    "-" ∷ "-" ∷
    "AT OP ARG" ∷ "0 BRANCHIF 3" ∷ "1 C_CALL1 A" ∷ "2 STOP -" ∷ "3 C_CALL1 B" ∷ "4 STOP -" ∷ [])

-- case 5: a number operated on, and whether it is then a certain other one: 13 cycles if so, and 20 if not
abbrev becomes : String → String → String → String → List ℕ
becomes kind cells operation result =
    small "1000 1000" kind "2 3 2 5 7 1" "0 0 0 0 0 0" "0 0 0 0 0 0" "ACCU S0" cells
    (operation ∷ result ∷ "2 EQ -" ∷ "3 BRANCHIF 5" ∷ "4 CONST1 -" ∷ "5 STOP -" ∷ [])

-- an operation on two cells, with two blocks, and a branch that shows what it gives
abbrev operated : String → String → List ℕ
operated operation cells =
    file
    ("BUDGET TICK" ∷ "1000 1000" ∷
    "EQ NEQ GEINT BRANCHIF CONST1 STOP" ∷ "2 2 2 5 7 1" ∷ "0 0 0 0 0 0" ∷ "0 0 0 0 0 0" ∷
    "-" ∷ "-" ∷ "-" ∷
    "ACCU S0" ∷ cells ∷
    "B0.0 B1.0" ∷ "0 0" ∷
    "AT OP ARG" ∷ operation ∷ "1 BRANCHIF 3" ∷ "2 CONST1 -" ∷ "3 STOP -" ∷ [])

-- a file with a cell, a field, a line with an argument, and an answer
abbrev numbered : String → String → String → String → List ℕ
numbered accu field line answer =
    file
    ("BUDGET TICK" ∷ "1000 1000" ∷
    "OFFSETINT STOP" ∷ "2 1" ∷ "0 0" ∷ "0 0" ∷
    "-" ∷ "-" ∷ "-" ∷
    "ACCU" ∷ accu ∷
    "B0.0" ∷ field ∷
    "AT OP ARG" ∷ line ∷ "1 STOP -" ∷ "ANSWER" ∷ answer ∷ [])

-- case 2 with a branch to its own address
abbrev own_address : String → List String → List ℕ
own_address accu rest = small "1000 1000" "BRANCHIF STOP" "5 1" "0 0" "0 0" "ACCU" accu ("0 BRANCHIF 0" ∷ rest)

-- ---- the table

-- document 01, "Cases on the edges", as §1, §6, §7 and §8 left them
abbrev pub starred_rows : List Row
starred_rows =
    starred "1: the file above" bound (published "1000 1000" "0 ?" []) (report "65 4 1 6 65 N")
    ∷ starred "1: with TICK 2000" bound (published "1000 2000" "0 ?" []) (report "65 4 1 6 32 N")
    ∷ starred "2" bound (one_branch "1000 1000" "0 0" "?") (report "6 0 0 3 6 T")
    ∷ starred "2: BUDGET 2" bound (one_branch "2 1000" "0 0" "?") ("REFUSED 9 1" ∷ [])
    ∷ starred "2: BUDGET 3" bound (one_branch "3 1000" "0 0" "?") (report "6 0 0 3 6 T")
    ∷ starred "3: STOP alone at price 0" bound (one_stop "1000 1000" "0") (report "0 0 0 1 0 -")
    ∷ starred "4" bound (two_calls "0 0 0") (report "13 9 0 5 13 N")
    ∷ starred "5: 1073741823 plus 1" bound (becomes "ADDINT PUSHCONSTINT EQ BRANCHIF CONST1 STOP" "1073741823 1" "0 ADDINT -" "1 PUSHCONSTINT -1073741824") (report "13 0 1 5 13 -")
    ∷ starred "5: NEGINT of -1073741824" bound (becomes "NEGINT PUSHCONSTINT EQ BRANCHIF CONST1 STOP" "-1073741824 0" "0 NEGINT -" "1 PUSHCONSTINT -1073741824") (report "13 0 2 5 13 -")
    ∷ starred "6" bound (small "1000 1000" "ADDINT ACC0 STOP" "1 1 1" "0 0 0" "0 0 0" "ACCU S0" "? 5" ("0 ADDINT -" ∷ "1 ACC0 -" ∷ "2 STOP -" ∷ [])) ("REFUSED 7 1" ∷ [])
    ∷ starred "7: the file above run" run (published "1000 1000" "0 0" ("ANSWER" ∷ "7" ∷ [])) (run_report "56 4 1 3")
    ∷ []

abbrev pub other_rows : List Row
other_rows =
    -- §1: case 2 with an extra of 3, and its runs; case 4 with an extra of 5, of 6 (a tie) and of 7
    other "§1: case 2 with an extra" bound (one_branch "1000 1000" "3 0" "?") (report "9 0 0 3 9 T")
    ∷ other "§1: taken" run (one_branch "1000 1000" "3 0" "1") (run_report "9 0 0 2")
    ∷ other "§1: not taken" run (one_branch "1000 1000" "3 0" "0") (run_report "6 0 0 2")
    ∷ other "§1: case 4, below" bound (two_calls "5 0 0") (report "13 9 0 5 13 N")
    ∷ other "§1: case 4, a tie" bound (two_calls "6 0 0") (report "13 9 0 5 13 T")
    ∷ other "§1: case 4, above" bound (two_calls "7 0 0") (report "14 9 0 5 14 T")
    -- §3: one way only, since the comparison of two handles is known
    ∷ other "§3: EQ of equal handles" bound (operated "0 EQ -" "#1 #1") (report "8 0 1 3 8 -")
    ∷ other "§3: EQ of unlike handles" bound (operated "0 EQ -" "#0 #1") (report "15 0 1 4 15 -")
    ∷ other "§3: NEQ of equal handles" bound (operated "0 NEQ -" "#1 #1") (report "15 0 1 4 15 -")
    ∷ other "§3: NEQ of unlike handles" bound (operated "0 NEQ -" "#0 #1") (report "8 0 1 3 8 -")
    ∷ other "§3: EQ of unlike handles, run" run (operated "0 EQ -" "#0 #1") (run_report "15 0 1 4")
    ∷ other "§3: a handle against a number" bound (operated "0 EQ -" "#0 0") ("REFUSED 7 0" ∷ [])
    ∷ other "§3: a handle against an unknown" bound (operated "0 EQ -" "? #0") ("REFUSED 7 0" ∷ [])
    ∷ other "§3: an order comparison of handles" bound (operated "0 GEINT -" "#0 #1") ("REFUSED 7 0" ∷ [])
    -- §6: a half with an odd whole part; case 1 with TICK 2000 has one with an even whole part
    ∷ other "§6: 67 with TICK 2000" bound (one_stop "1000 2000" "67") (report "67 0 0 1 34 -")
    -- §7: the other operations that wrap, OFFSETINT below the range too; a cell, a field, an argument and an answer at an end and outside
    ∷ other "§7: SUBINT" bound (becomes "SUBINT PUSHCONSTINT EQ BRANCHIF CONST1 STOP" "-1073741824 1" "0 SUBINT -" "1 PUSHCONSTINT 1073741823") (report "13 0 1 5 13 -")
    ∷ other "§7: OFFSETINT above" bound (becomes "OFFSETINT PUSHCONSTINT EQ BRANCHIF CONST1 STOP" "1073741823 0" "0 OFFSETINT 1" "1 PUSHCONSTINT -1073741824") (report "13 0 2 5 13 -")
    ∷ other "§7: OFFSETINT below" bound (becomes "OFFSETINT PUSHCONSTINT EQ BRANCHIF CONST1 STOP" "-1073741824 0" "0 OFFSETINT -1" "1 PUSHCONSTINT 1073741823") (report "13 0 2 5 13 -")
    ∷ other "§7: BOOLNOT" bound (becomes "BOOLNOT PUSHCONSTINT EQ BRANCHIF CONST1 STOP" "-1073741823 0" "0 BOOLNOT -" "1 PUSHCONSTINT -1073741824") (report "13 0 2 5 13 -")
    ∷ other "§7: at the ends" bound (numbered "1073741823" "-1073741824" "0 OFFSETINT -1073741824" "1073741823") (report "3 0 0 2 3 -")
    ∷ other "§7: a cell outside" bound (numbered "1073741824" "0" "0 OFFSETINT 0" "0") ("REFUSED 3 11" ∷ [])
    ∷ other "§7: a field outside" bound (numbered "0" "-1073741825" "0 OFFSETINT 0" "0") ("REFUSED 3 13" ∷ [])
    ∷ other "§7: an argument outside" bound (numbered "0" "0" "0 OFFSETINT 1073741824" "0") ("REFUSED 3 15" ∷ [])
    ∷ other "§7: an answer outside" bound (numbered "0" "0" "0 OFFSETINT 0" "-1073741825") ("REFUSED 3 18" ∷ [])
    -- §8: a branch to its own address, where the number 0 would end the loop, and after 6 and before 11
    ∷ other "§8: known numbers would end it" bound (own_address "0" ("1 STOP -" ∷ [])) ("REFUSED 13 15" ∷ [])
    ∷ other "§8: run" run (own_address "0" ("1 STOP -" ∷ [])) ("REFUSED 13 15" ∷ [])
    ∷ other "§8: before 11" run (own_address "?" ("1 STOP -" ∷ [])) ("REFUSED 13 15" ∷ [])
    ∷ other "§8: after 6" bound (own_address "0" ("1 BRANCHIF 2" ∷ [])) ("REFUSED 6 16" ∷ [])
    -- §12: "1 if it holds for every pair of numbers in the two ranges, 0 if for none, else 0 to 1"
    ∷ other "§12: for every pair" bound (operated "0 GEINT -" "0..1008 0") (report "8 0 1 3 8 -")
    ∷ other "§12: for none" bound (operated "0 GEINT -" "0..1008 1009") (report "15 0 1 4 15 -")
    ∷ other "§12: for some" bound (operated "0 GEINT -" "0..1008 1008") (report "15 0 1 5 15 N")
    ∷ other "§12: `?` is the whole range" bound (operated "0 GEINT -" "? -1073741824") (report "8 0 1 3 8 -")
    ∷ other "§12: a range of one number, run" run (operated "0 GEINT -" "5..5 0") (run_report "8 0 1 3")
    -- §12: "A run refuses a range of more than one number as it does `?`."
    ∷ other "§12: a range, run" run (operated "0 GEINT -" "0..1008 0") ("REFUSED 11 11" ∷ [])
    ∷ other "§12: a range in a field, run" run (numbered "0" "0..1" "0 OFFSETINT 0" "0") ("REFUSED 11 13" ∷ [])
    ∷ other "§12: a range in a field" bound (numbered "0" "0..1" "0 OFFSETINT 0" "0") (report "3 0 0 2 3 -")
    ∷ other "§12: lo above hi" bound (operated "0 GEINT -" "6..5 0") ("REFUSED 3 11" ∷ [])
    ∷ other "§12: hi outside the 31 bits" bound (operated "0 GEINT -" "0 0..1073741824") ("REFUSED 3 11" ∷ [])
    ∷ other "§12: three stops" bound (operated "0 GEINT -" "1...2 0") ("REFUSED 2 11" ∷ [])
    ∷ other "§12: one end" bound (operated "0 GEINT -" "1.. 0") ("REFUSED 2 11" ∷ [])
    ∷ other "§12: an unknown end" bound (operated "0 GEINT -" "?..2 0") ("REFUSED 2 11" ∷ [])
    ∷ other "§12: handles as ends" bound (operated "0 GEINT -" "#0..#1 0") ("REFUSED 2 11" ∷ [])
    ∷ []

abbrev pub table : List Row
table = starred_rows ++ other_rows
