-- The loop of `merge_rows::encode_cells`: the first i cells are put down.
use mathlib.Core.Path.{◌≡◌}
use mathlib.Core.List.{map}
use lib.ListN.{take, drop}
use Rattle.merge_cells.specs.HeldCodes.{decoded_cells}
use Rattle.cells.specs.HeldConfined.{confine}
use Rattle.merge_rows.proofs.encode_cells.Given as goal

abbrev pub invariant-loop-i : goal.invariant-loop-i
invariant-loop-i l = decoded_cells (take l.i l.numbers) ≡ map confine (take l.i (drop l.low l.cells))
