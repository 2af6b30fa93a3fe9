-- The loop of `merge_rows::merge_blocks`: the first k blocks are merged.
use mathlib.Core.List.{[]}
use Rattle.machine_state.specs.HeldProgram.{sizes_of}
use Rattle.machine_state.specs.HeldState.{blocks_of}
use Rattle.merge_cells.specs.Merge.{merge_cells}
use Rattle.merge_cells.specs.HeldCodes.{decoded_cells}
use Rattle.merge_theory.specs.Merge.{merge_lists}
use Rattle.merge_rows.proofs.ZipLaws.{Partly}
use Rattle.merge_rows.proofs.merge_blocks.Given as goal

abbrev pub invariant-loop-k : goal.invariant-loop-k
invariant-loop-k l =
    Partly (merge_lists merge_cells) [] (merge_lists (merge_lists merge_cells) (blocks_of (sizes_of l.code) (decoded_cells l.initial.held)) (blocks_of (sizes_of l.code) (decoded_cells l.came))) l.k (blocks_of (sizes_of l.code) (decoded_cells l.held)) (blocks_of (sizes_of l.code) (decoded_cells l.came))
