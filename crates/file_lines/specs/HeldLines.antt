-- What a word of a line is tested for, and which kinds a line has named.
use Rattle.std.specs.Prelude.{None, Option, Some}
use Rattle.refusals.specs.Library.{ℕ, eqb, get_or, set, Bool, false, not, List}
use Rattle.file_format.specs.Terms.{is_empty, numeral}
use Rattle.numbers.specs.Numbers.{within}
use Rattle.file_format.specs.Rows.{is_numeral, value, cell_word, is_cell, cell_in_range, is_single, cell_present, is_name, cycle_counts, word_counts}
use Rattle.file_lines.specs.declared.WordTest.{WordTest}
use Rattle.file_lines.specs.declared.WordTest.TheVariants.{Filled, Numeral, Cycles, Words, Cell, CellRange, Present, Known, Primitive}

-- each test as the definition of the routine file has it
unfoldable pub word_test : WordTest → List ℕ → Bool
word_test Filled w = not (is_empty w)
word_test Numeral w = is_numeral (numeral w)
word_test Cycles w = within cycle_counts (value w)
word_test Words w = within word_counts (value w)
word_test Cell w = is_cell (cell_word w)
word_test CellRange w = cell_in_range (cell_word w)
word_test (Present n) w = cell_present n (cell_word w)
word_test Known w = is_single (cell_word w)
word_test Primitive w = is_name w

-- what is kept of the kinds that were seen: 1 for each of them, else 0. Whether the kind at a place is there and none of them
unfoldable pub is_new : List ℕ → Option ℕ → Bool
is_new seen (Some k) = eqb (get_or seen k 0) 0
is_new seen None = false

-- the same with that kind
unfoldable pub marked : List ℕ → Option ℕ → List ℕ
marked seen (Some k) = set seen k 1
marked seen None = seen
