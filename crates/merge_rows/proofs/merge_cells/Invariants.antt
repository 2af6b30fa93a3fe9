-- The loop of `merge_rows::merge_cells`: the first i cells are merged.
use Rattle.merge_cells.specs.Merge.{merge_cells}
use Rattle.merge_cells.specs.HeldCodes.{decoded_cell, decoded_cells}
use Rattle.merge_theory.specs.Merge.{merge_lists}
use Rattle.merge_rows.proofs.ZipLaws.{Partly}
use Rattle.merge_rows.proofs.merge_cells.Given as goal

abbrev pub invariant-loop-i : goal.invariant-loop-i
invariant-loop-i l =
    Partly merge_cells (decoded_cell 0) (merge_lists merge_cells (decoded_cells l.initial.held) (decoded_cells l.came)) l.i (decoded_cells l.held) (decoded_cells l.came)
