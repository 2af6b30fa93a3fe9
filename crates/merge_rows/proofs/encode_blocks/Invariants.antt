-- The loop of `merge_rows::encode_blocks`: the first k blocks are put down.
use mathlib.Core.Path.{◌≡◌}
use mathlib.Core.List.{map}
use lib.ListN.{take}
use Rattle.machine_state.specs.HeldProgram.{sizes_of}
use Rattle.machine_state.specs.HeldState.{blocks_of}
use Rattle.merge_cells.specs.HeldCodes.{decoded_cells}
use Rattle.cells.specs.HeldConfined.{confine}
use Rattle.merge_rows.proofs.encode_blocks.Given as goal

abbrev pub invariant-loop-k : goal.invariant-loop-k
invariant-loop-k l =
    take l.k (blocks_of (sizes_of l.code) (decoded_cells l.fields)) ≡ take l.k (blocks_of (sizes_of l.code) (map confine l.blocks))
