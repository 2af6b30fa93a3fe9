-- The file of a seed. (document 02 §11, docs/GENERATOR.md)
use Rattle.std.specs.Prelude.{◌+◌, ◌-◌, ◌*◌, ◌/◌, ◌%◌, ◌&&◌, ◌∷◌, ◌++◌}
use Rattle.refusals.specs.Library.{ℕ, zero, suc, eqb, ltb, leb, get_or, Bool, true, false, cond, List, []}
use Rattle.text.specs.Text.{bytes}
use Rattle.text_decimals.specs.Decimal.{decimal, integer}
use Rattle.instructions.specs.declared.Argument.{Argument}
use Rattle.instructions.specs.declared.Argument.TheVariants.{Absent, Target, Primitive, Within}
use Rattle.instructions.specs.Kinds.{kind_at}
use Rattle.generate_file.specs.declared.Column.{Column}
use Rattle.generate_file.specs.declared.Column.TheVariants.{Names, Limits, Cycles, Words, Extras, Handles, Known, Open}
use Rattle.generate_file.specs.Draws.{after}
use Rattle.generate_file.specs.Words.{number_in, row}

-- ---- the code

-- "The first draw's remainder on 200 is the number of AT lines before a closing STOP."
unfoldable pub count : ℕ → ℕ
count seed = after 1 seed % 200

-- the kind of line k, from 0: "a draw's remainder on 61 is the kind's place, from 0, in the list of document 01"; line `count` is the closing STOP
unfoldable pub kind_of : ℕ → ℕ → ℕ
kind_of seed k = cond (ltb k (count seed)) (after (2 + k) seed % 61) 60

-- the primitives
abbrev pub primitives : List (List ℕ)
primitives = bytes "READ" ∷ bytes "WRITE" ∷ bytes "CLOCK" ∷ bytes "NOISE" ∷ []

-- the target of line k, where n lines stand before the closing STOP: once in sixteen draws any line after it, else the closing STOP
unfoldable pub target : ℕ → ℕ → ℕ → ℕ
target n k d = n - cond (eqb (d / (n - k) % 16) 0) (d % (n - k)) 0

-- the argument of line k from its draw
unfoldable pub argument : ℕ → ℕ → ℕ → Argument → List ℕ
argument n k d Absent = bytes "-"
argument n k d Target = decimal (target n k d)
argument n k d Primitive = get_or primitives (d % 4) []
argument n k d (Within r) = integer (number_in r d)

-- line k, of a kind, with its argument from draw d
unfoldable pub line_of : ℕ → ℕ → ℕ → ℕ → List ℕ
line_of n k kind d = decimal k ++ bytes " " ++ (kind_at kind).name ++ bytes " " ++ argument n k d (kind_at kind).argument ++ bytes "\n"

-- the draws of the arguments, one for each line in order, follow those of the kinds
unfoldable pub code_line : ℕ → ℕ → List ℕ
code_line seed k = line_of (count seed) k (kind_of seed k) (after (2 + count seed + k) seed)

-- m lines from line k on
unfoldable pub code_from : ℕ → ℕ → ℕ → List ℕ
code_from seed k zero = []
code_from seed k (suc m) = code_line seed k ++ code_from seed (suc k) m

-- ---- what stands before it

-- a kind that reads or sets a field: places 42 to 51, GETFIELD0 to SETFIELD
abbrev pub accesses : ℕ → Bool
accesses k = leb 42 k && leb k 51

-- whether the file may hold unknown cells: the first draw's quotient on 200 is odd
unfoldable pub is_open : ℕ → Bool
is_open seed = eqb (after 1 seed / 200 % 2) 1

-- cells that are no handles
unfoldable pub plain_cells : ℕ → Column
plain_cells seed = cond (is_open seed) Open Known

-- the cells that the kind of line k calls for: handles where it reads or sets a field
unfoldable pub cells_for : ℕ → ℕ → Column
cells_for seed k = cond (accesses (kind_of seed k)) Handles (plain_cells seed)

-- draw i after those of the kinds and the arguments
abbrev pub later : ℕ → ℕ → ℕ
later seed i = after (1 + 2 * count seed + i) seed

-- lines 1 to 3: the limits, and all kinds
unfoldable pub limit_lines : ℕ → List ℕ
limit_lines seed = bytes "BUDGET TICK\n" ++ row Limits 2 false (later seed 0) ++ row Names 61 false 0

-- lines 4 to 6: the prices of the kinds, and their extras
unfoldable pub kind_prices : ℕ → List ℕ
kind_prices seed = row Cycles 61 false (later seed 2) ++ row Words 61 false (later seed 63) ++ row Extras 61 false (later seed 124)

-- lines 7 to 9: the primitives with their prices
unfoldable pub primitive_prices : ℕ → List ℕ
primitive_prices seed = bytes "READ WRITE CLOCK NOISE\n" ++ row Cycles 4 false (later seed 185) ++ row Words 4 false (later seed 189)

-- lines 1 to 9
unfoldable pub prices : ℕ → List ℕ
prices seed = limit_lines seed ++ kind_prices seed ++ primitive_prices seed

-- the names on line 10 and on line 12: 32 entries, and two blocks of 16 fields
abbrev pub cell_names : List ℕ
cell_names = bytes "ACCU S0 S1 S2 S3 S4 S5 S6 S7 S8 S9 S10 S11 S12 S13 S14 S15 S16 S17 S18 S19 S20 S21 S22 S23 S24 S25 S26 S27 S28 S29 S30 S31\n"

abbrev pub field_names : List ℕ
field_names = bytes "B0.0 B0.1 B0.2 B0.3 B0.4 B0.5 B0.6 B0.7 B0.8 B0.9 B0.10 B0.11 B0.12 B0.13 B0.14 B0.15 B1.0 B1.1 B1.2 B1.3 B1.4 B1.5 B1.6 B1.7 B1.8 B1.9 B1.10 B1.11 B1.12 B1.13 B1.14 B1.15\n"

-- lines 10 to 13: the accumulator as line 0 calls for it, the entries as line 1 does; no handle in block 0, handles in block 1
unfoldable pub start : ℕ → List ℕ
start seed =
    cell_names ++ row (cells_for seed 0) 1 true (later seed 193) ++ row (cells_for seed 1) 32 false (later seed 194)
    ++ field_names ++ row (plain_cells seed) 16 true (later seed 226) ++ row Handles 16 false (later seed 242)

-- all lines; addresses begin at 0, and there is no ANSWER
unfoldable pub file : ℕ → List ℕ
file seed = prices seed ++ start seed ++ bytes "AT OP ARG\n" ++ code_from seed 0 (suc (count seed))
