-- The loop of `merge_rows::decode_fields`: the first i numbers are read.
use mathlib.Core.Path.{◌≡◌}
use lib.ListN.{length, take}
use Rattle.merge_cells.specs.HeldCodes.{decoded_cells}
use Rattle.merge_rows.proofs.decode_fields.Given as goal

abbrev pub invariant-loop-i : goal.invariant-loop-i
invariant-loop-i l = record { places : length l.blocks ≡ 128; read : take l.i l.blocks ≡ decoded_cells (take l.i l.fields) }
