-- What the numbers of the table stand for: what has come to an address.
use Rattle.std.specs.Prelude.{◌+◌, ◌-◌, ◌*◌, ◌≡◌, None, Option, Some}
use Rattle.refusals.specs.Library.{ℕ, zero, suc, eqb, ltb, length, get_or, take, drop, Bool, true, false, cond, List}
use Rattle.machine.specs.Terms.{Try, done, stuck, Cell, State, Price, Cellwise}
use Rattle.merge_cells.specs.HeldCodes.{decoded_cell, decoded_cells}
use Rattle.cells.specs.HeldConfined.{Kept}
use Rattle.machine_state.specs.HeldProgram.{lines_in}
use Rattle.machine_state.specs.HeldState.{WellFormed, blocks_of, whole}
use Rattle.merge_theory.specs.Merge.{Arrival, arrival, Slot, empty, unlike, held, join}
use Rattle.merge_rows.specs.declared.Way.{Way}

-- the arrays of a way have their lengths
pub record Formed (w : Way) : Type 0 where
  pub state : WellFormed w.state
  pub fields : length w.blocks ≡ 128

-- the numbers in the cells of a way all have as many bits as numbers have
abbrev pub Numeric : List ℕ → Way → Type 0
Numeric ns w = Cellwise Kept (whole ns w.blocks w.state) (whole ns w.blocks w.state)

-- the length of a row: a mark, the unused places of the stack, cycles, words, the accumulator, 64 entries and 128 fields
abbrev pub Row : List ℕ → Type 0
Row r = length r ≡ 197

-- the length of the 1,025 rows of the table
abbrev pub Rows : List ℕ → Type 0
Rows rs = length rs ≡ 201925

-- the numbers of a list from place i up to place e
abbrev pub part : ℕ → ℕ → List ℕ → List ℕ
part i e xs = take (e - i) (drop i xs)

-- a row for each address of a program, and one for the address after its last
abbrev pub rows_of : List ℕ → ℕ
rows_of ws = lines_in ws + 1

-- the unused places of a stack: any number stands for some
unfoldable pub unused_of : ℕ → ℕ
unused_of n = cond (ltb n 64) n 64

-- what the answers of the merges stand for, with what is left in the first list
unfoldable pub of_merged : Option ℕ → Try Cell
of_merged None = stuck
of_merged (Some x) = done (decoded_cell x)

abbrev pub of_cells : Bool → List ℕ → Try (List Cell)
of_cells true xs = done (decoded_cells xs)
of_cells false xs = stuck

abbrev pub of_blocks : List ℕ → Bool → List ℕ → Try (List (List Cell))
of_blocks ns true xs = done (blocks_of ns (decoded_cells xs))
of_blocks ns false xs = stuck

-- a way as the definition has it; ns are the sizes of the blocks
unfoldable pub arrival_of : List ℕ → Way → Arrival
arrival_of ns w = arrival (whole ns w.blocks w.state) (record { cycles = w.cycles; words = w.words })

-- the state of a row, at the address a
unfoldable pub state_in : List ℕ → ℕ → List ℕ → State
state_in ns a r = record { at = a; accu = decoded_cell (get_or r 4 0); stack = decoded_cells (part (5 + unused_of (get_or r 1 0)) 69 r); blocks = blocks_of ns (decoded_cells (part 69 197 r)) }

-- the largest sums
unfoldable pub price_in : List ℕ → Price
price_in r = record { cycles = get_or r 2 0; words = get_or r 3 0 }

-- both
abbrev pub arrival_in : List ℕ → ℕ → List ℕ → Arrival
arrival_in ns a r = arrival (state_in ns a r) (price_in r)

abbrev pub of_states : List ℕ → ℕ → Bool → List ℕ → Try State
of_states ns a true r = done (state_in ns a r)
of_states ns a false r = stuck

-- by the mark of a row
unfoldable pub marked : ℕ → Arrival → Slot
marked zero x = empty
marked (suc zero) x = held x.state x.spent
marked (suc (suc n)) x = unlike

-- what a row holds
unfoldable pub slot_in : List ℕ → ℕ → List ℕ → Slot
slot_in ns a r = marked (get_or r 0 0) (arrival_in ns a r)

-- what row b of the table holds, which is that of the address `first + b`
unfoldable pub slot_at : List ℕ → ℕ → List ℕ → ℕ → Slot
slot_at ns first rs b = slot_in ns (first + b) (part (197 * b) (197 * b + 197) rs)

-- what has come to the address a, once x has come to its own
unfoldable pub join_at : ℕ → Arrival → Slot → Slot
join_at a x s = cond (eqb a x.state.at) (join s x) s

-- what has come to an address, with the way w if `here` says so
unfoldable pub with : List ℕ → Bool → Way → Slot → Slot
with ns true w s = join s (arrival_of ns w)
with ns false w s = s

-- what has come to the address of row b, where the way w goes to that of row j if `here` says so
unfoldable pub waiting : List ℕ → Bool → Way → ℕ → ℕ → Slot → Slot
waiting ns here w j b s = cond (eqb b j) (with ns here w s) s
