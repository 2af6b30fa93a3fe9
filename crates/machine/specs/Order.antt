-- A relation of cells, carried to states cell by cell: "the same blocks with as many fields in each", as many stack entries.
use Rattle.std.specs.Prelude.{◌≡◌}
use Rattle.cells.specs.declared.Cell.{Cell}
use Rattle.cells.specs.Order.{Pointwise}
use Rattle.machine.specs.Machine.{State}

-- with `Refines` this is the erasure of states of document 000; with `Allowed`, that t allows the plain state s
pub record Cellwise (R : Cell → Cell → Type 0) (s t : State) : Type 0 where
  pub at : s.at ≡ t.at
  pub accu : R s.accu t.accu
  pub stack : Pointwise R s.stack t.stack
  pub blocks : Pointwise (Pointwise R) s.blocks t.blocks
