-- Cells as numbers, as a table of numbers holds them.
use Rattle.std.specs.Prelude.{◌-◌, ◌/◌, ◌%◌, ◌-ℤ◌}
use Rattle.refusals.specs.Library.{ℕ, leb, pos, cond, List, map}
use Rattle.numbers.specs.Numbers.{bits, modulus, half}
use Rattle.cells.specs.declared.Cell.{Cell}
use Rattle.cells.specs.Cells.{range, handle}

-- every number stands for a cell: the lowest `bits` bits for the greatest number of a range and those above them for the least, counted
-- from the lowest number on; for a handle where that would be no range
unfoldable pub decoded_cell : ℕ → Cell
decoded_cell x =
    let least = x / modulus bits in
    let greatest = x % modulus bits in
    cond (leb least greatest) (range (pos least -ℤ pos (half bits)) (greatest - least)) (handle (x % 256))

-- the same of a list
unfoldable pub decoded_cells : List ℕ → List Cell
decoded_cells xs = map decoded_cell xs
