-- The loop of `nearest_search::cells_read`: the places that were asked are answered.
use Prim.Native.Nat.{ℕ, ◌<◌}
use mathlib.Core.Path.{◌≡◌}
use mathlib.Core.Bool.{false}
use lib.ListN.{length, get_or}
use Rattle.machine_state.specs.HeldProgram.{program_of, sizes_of}
use Rattle.machine_state.specs.HeldState.{whole}
use Rattle.nearest_changes.specs.Places.{position_of}
use Rattle.nearest_search.specs.Held.{is_read}
use Rattle.nearest_search.proofs.cells_read.Given as goal

abbrev pub invariant-loop-k : goal.invariant-loop-k
invariant-loop-k l = record {
  places : length l.read ≡ 193;
  each : (i : ℕ) → i < l.k → get_or l.read i false ≡ is_read (program_of l.code) l.budget l.figure (whole (sizes_of l.code) l.blocks l.start) (position_of i);
}
