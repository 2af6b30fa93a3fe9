-- The places before `start` are as they were, and the first i places from there on hold the first i cells.
use Rattle.std.proofs.Common.{◌≡◌, length, take, drop}
use Rattle.file_format.specs.Layout.{list}
use Rattle.file_format.specs.Routine.{cells_of}
use Rattle.file_parts.proofs.fill.Given as goal

abbrev pub invariant-loop-i : goal.invariant-loop-i
invariant-loop-i l = record {
  long : length l.filled ≡ 128;
  kept : take l.start l.filled ≡ take l.start l.fn.fields;
  filled : take l.i (drop l.start l.filled) ≡ take l.i (drop l.from (cells_of (list l.values)));
}
