-- The first i places from `free` on hold the first i cells after the first.
use Rattle.std.proofs.Common.{◌≡◌, ◌+◌, ◌-◌, length, take, drop}
use Rattle.file_format.specs.Layout.{list}
use Rattle.file_format.specs.Routine.{cells_of}
use Rattle.file_parts.proofs.start_of.Given as goal

abbrev pub invariant-loop-i : goal.invariant-loop-i
invariant-loop-i l = record {
  long : length l.stack ≡ 64;
  rest : l.n ≡ length (cells_of (list l.values)) - 1;
  seam : l.free + l.n ≡ 64;
  filled : take l.i (drop l.free l.stack) ≡ take l.i (drop 1 (cells_of (list l.values)));
}
