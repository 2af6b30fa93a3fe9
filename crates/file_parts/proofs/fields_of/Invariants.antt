-- The first k blocks are in their places, and `from` cells are passed.
use Rattle.std.proofs.Common.{◌≡◌, take}
use Rattle.machine_state.specs.HeldState.{blocks_of}
use Rattle.file_format.specs.Rows.{total}
use Rattle.file_format.specs.Layout.{list}
use Rattle.file_format.specs.Routine.{cells_of, blocks_in_line}
use Rattle.file_parts.proofs.fields_of.Given as goal

abbrev pub invariant-loop-k : goal.invariant-loop-k
invariant-loop-k l = record {
  passed : l.from ≡ total (take l.k l.sizes);
  filled : blocks_of (take l.k l.sizes) l.fields ≡ blocks_in_line (take l.k l.sizes) (cells_of (list l.values));
}
