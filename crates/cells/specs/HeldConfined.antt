-- Cells whose numbers all have as many bits as numbers have.
use Rattle.std.specs.Prelude.{◌≡◌}
use Rattle.cells.specs.declared.Value.{Value}
use Rattle.cells.specs.declared.Value.TheVariants.{Range, Handle}
use Rattle.cells.specs.declared.Cell.{Cell}
use Rattle.cells.specs.Cells.{handle, results}

-- a value whose numbers all have `bits` bits: itself, or the whole range where some number has more, which no routine leads to
unfoldable pub confine_value : Value → Cell
confine_value (Range low more) = results low more
confine_value (Handle k) = handle k

-- the same of a cell
unfoldable pub confine : Cell → Cell
confine a = confine_value a.value

-- a cell whose numbers all have `bits` bits
pub record Confined (a : Cell) : Type 0 where
  pub stays : confine a ≡ a

-- a is b, and confined: cell by cell over a state, this says that its numbers all have `bits` bits
pub record Kept (a b : Cell) : Type 0 where
  pub alike : a ≡ b
  pub kept : Confined a
