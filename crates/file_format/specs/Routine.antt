-- The routine of a text that passes refusals 1 to 6 and 13, and which refusal a text has that does not.
-- Every definition is total: what a passing text never needs is 0 or empty.
use Rattle.std.specs.Prelude.{◌∷◌, ◌++◌, Option, None, Some}
use Rattle.refusals.specs.Library.{ℕ, ltb, ℤ, pos, nat_abs, length, get_or, take, drop, cond, List, [], map}
use Rattle.machine.specs.Terms.{numbers, within, Cell, handle, exactly, between, Argument, Absent, Target, Primitive, Within, kind_at, kind_names, addresses, State, Code}
use Rattle.machine.specs.Terms.{Instruction, Price}
use Rattle.file_format.specs.Terms.{Refusal, TextLength, Layout, OutOfRange, BadName, Line, lines, find, Section, limits, kinds, primitives, cells, fields, limit}
use Rattle.file_format.specs.Terms.{cycles, words-column, extra, cell, names, values}
use Rattle.refusals.specs.declared.Refusal.TheVariants.{Unpriced, NoTarget, Backward, UnknownCell}
use Rattle.numbers.specs.declared.Range.{Range}
use Rattle.cells.specs.Cells as Cells-of
use Rattle.machine.specs.Machine.{instruction, Prices, price_of}
use Rattle.file_format.specs.Layout.{body, lines_of_code, answer_lines, listed}
use Rattle.file_format.specs.declared.CellWord.{CellWord}
use Rattle.file_format.specs.declared.CellWord.TheVariants.{Wrong as wrong, Unknown as unknown, Known as known, Block as block, Span as span}
use Rattle.file_format.specs.declared.Row.{Row}
use Rattle.file_format.specs.declared.Row.TheVariants.{Layout as Layout-row, Range as range-row, Name as name-row, Price as price-row, Target as target_row, Forward as forward-row, Known as known-row}
use Rattle.file_format.specs.Rows.{value, cell_word, handles, block_sizes, op, arg, first_addresses, budgets, ticks, cycle_counts, word_counts, extra_counts, first_at, refused_line}

-- a routine: BUDGET and TICK, its code, the state it starts in, its answers
pub record Routine : Type 0 where
  pub budget : ℕ
  pub tick : ℕ
  pub code : Code
  pub start : State
  pub answers : List ℤ

-- a number of a range; one outside it, which row 3 refuses, counts 0
unfoldable pub inside : Range → ℤ → ℤ
inside r z = cond (within r z) z (pos 0)

-- the same for a word and a range that begins at 0 or above
abbrev pub natural_in : Range → List ℕ → ℕ
natural_in r w = nat_abs (inside r (value w))

-- the number at place i of a line that lists ws
abbrev pub natural_at : Range → List (List ℕ) → ℕ → ℕ
natural_at r ws i = natural_in r (get_or ws i [])

-- ---- prices

-- what the lines of a section with prices list: the names, their cycles, their words
pub record PriceList : Type 0 where
  pub names : List (List ℕ)
  pub cycles : List (List ℕ)
  pub words : List (List ℕ)

-- lines 3 to 5 or 7 to 9: the prices of the kinds, or of the primitives
unfoldable pub price_list : Section → List Line → PriceList
price_list s ls = record { names = listed (names s) ls; cycles = listed (values s cycles) ls; words = listed (values s words-column) ls }

-- the price of the name at place i
abbrev pub price_at : PriceList → ℕ → Price
price_at p i = record { cycles = natural_at cycle_counts p.cycles i; words = natural_at word_counts p.words i }

-- of the kinds and of the primitives, by place
abbrev pub prices : PriceList → PriceList → Prices
prices ks ps = record { kinds = price_at ks; primitives = price_at ps }

-- ---- code

-- an argument: a number, an address, or a primitive's place on line 7
unfoldable pub argument_value : List (List ℕ) → List ℕ → Argument → ℤ
argument_value ps w Absent = pos 0
argument_value ps w Target = inside addresses (value w)
argument_value ps w Primitive = pos (find w ps)
argument_value ps w (Within r) = inside numbers (value w)

-- the instruction of a code line, at the price of its kind (in ks) and of its primitive (in ps), with the extra of its kind (in xs)
unfoldable pub instruction_of : PriceList → List (List ℕ) → PriceList → List ℕ → Instruction
instruction_of ks xs ps text =
    let k = kind_at (find (op text) kind_names) in
    let i = find (op text) ks.names in
    let v = argument_value ps.names (arg text) k.argument in
    instruction k v (price_of (prices ks ps) k.argument i v) (natural_at extra_counts xs i)

-- "AT starts anywhere from 0 to 60,000": the first address, by the lines after the layout
abbrev pub first_address : List Line → ℕ
first_address ls = nat_abs (inside first_addresses (first_at ls))

-- the code of a file
unfoldable pub code_in : List Line → Code
code_in ls = record {
  first = first_address (body ls);
  instructions = map (λ l. instruction_of (price_list kinds ls) (listed (values kinds extra) ls) (price_list primitives ls) l.text) (lines_of_code (body ls));
}

-- ---- cells

-- "number, `?` for unknown, `#k` for block k (0 to 7)", `lo..hi`
unfoldable pub cell_of : CellWord → Cell
cell_of wrong = exactly (pos 0)
cell_of unknown = Cells-of.unknown
cell_of (known z) = exactly (inside numbers z)
cell_of (block k) = handle (nat_abs (inside handles k))
cell_of (span lo hi) = between (inside numbers lo) (inside numbers hi)

-- the cells that a line lists
unfoldable pub cells_of : List (List ℕ) → List Cell
cells_of ws = map (λ w. cell_of (cell_word w)) ws

-- the fields, "block after block"
unfoldable pub blocks_in_line : List ℕ → List Cell → List (List Cell)
blocks_in_line [] cs = []
blocks_in_line (n ∷ ns) cs = take n cs ∷ blocks_in_line ns (drop n cs)

-- "ACCU, then S0 on": the start at an address, by the cells of line 11 and the blocks of line 13
unfoldable pub start_of : ℕ → List Cell → List (List Cell) → State
start_of first cs bs = record { at = first; accu = get_or cs 0 (exactly (pos 0)); stack = drop 1 cs; blocks = bs }

-- the routine that the lines of a file hold: on line 2 BUDGET, then TICK; "The start address is that of the first AT line."
unfoldable pub routine_of : List Line → Routine
routine_of ls = record {
  budget = natural_at budgets (listed (values limits limit) ls) 0;
  tick = natural_at ticks (listed (values limits limit) ls) 1;
  code = code_in ls;
  start =
      start_of (code_in ls).first (cells_of (listed (values cells cell) ls))
      (blocks_in_line (block_sizes (listed (names fields) ls)) (cells_of (listed (values fields cell) ls)));
  answers = map (λ l. inside numbers (value l.text)) (answer_lines (body ls));
}

-- ---- the reading of a text

-- what reading a text comes to
pub data Reading : Type 0 where
  unread : Refusal → Reading
  routine : Routine → Reading

-- the refusal at the line that a row refuses, or what comes next
unfoldable pub or_else : Option ℕ → (ℕ → Refusal) → Reading → Reading
or_else None r next = next
or_else (Some n) r next = unread (r n)

-- a row of the refusal table, and its refusal at a line
pub record Check : Type 0 where
  pub row : Row
  pub refusal : ℕ → Refusal

-- a check by its parts
abbrev pub check : Row → (ℕ → Refusal) → Check
check r f = record { row = r; refusal = f }

-- "Checked in the order of the rows"; "13, checked over the whole file after 6 and before 11" (document 02 §8)
abbrev pub bound_checks : List Check
bound_checks =
    check Layout-row Layout ∷ check range-row OutOfRange ∷ check name-row BadName ∷ check price-row Unpriced ∷ check target_row NoTarget ∷ check forward-row Backward ∷ []

-- "run only: a `?` on line 10, then 12", which are lines 11 and 13 since §1 of document 02
abbrev pub run_checks : List Check
run_checks = bound_checks ++ (check known-row UnknownCell ∷ [])

-- the reading of lines by the given checks: the first row that refuses a line decides
unfoldable pub checked : List Check → List Line → Reading
checked [] ls = routine (routine_of ls)
checked (c ∷ cs) ls = or_else (refused_line c.row ls) c.refusal (checked cs ls)

-- "ASCII, at most 32,768 bytes"
abbrev pub text_limit : ℕ
text_limit = 32768

-- "text over 32,768 bytes" comes first
unfoldable pub limited : List ℕ → Reading → Reading
limited text next = cond (ltb text_limit (length text)) (unread TextLength) next

-- as the bound reads a text
unfoldable pub read_bound : List ℕ → Reading
read_bound text = let ls = lines text in limited text (checked bound_checks ls)

-- as the run reads it
unfoldable pub read_run : List ℕ → Reading
read_run text = let ls = lines text in limited text (checked run_checks ls)
