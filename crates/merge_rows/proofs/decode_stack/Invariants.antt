-- The loop of `merge_rows::decode_stack`: the first i numbers are read.
use mathlib.Core.Path.{◌≡◌}
use lib.ListN.{length, take, drop}
use Rattle.merge_cells.specs.HeldCodes.{decoded_cells}
use Rattle.merge_rows.proofs.decode_stack.Given as goal

abbrev pub invariant-loop-i : goal.invariant-loop-i
invariant-loop-i l = record { places : length l.stack ≡ 64; read : take l.i (drop l.low l.stack) ≡ decoded_cells (take l.i l.entries) }
