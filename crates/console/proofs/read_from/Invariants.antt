-- The bytes that are read are at the start of the memory, and the last read did not fail. The measure is the room left.
use Rattle.std.proofs.Common.{length, ◌-◌, take, ◌≤◌, pos, ◌≤ℤ◌}
use Rattle.std.specs.Io.KnownBytes.{Consumes}
use Rattle.console.proofs.read_from.Given as goal

abbrev pub invariant-loop-n : goal.invariant-loop-n
invariant-loop-n g l = record {
  fits : l.n ≤ length l.text;
  natural : pos 0 ≤ℤ l.last;
  consumed : Consumes (g.R.Read.remaining l.fn.reader) (g.R.Read.remaining l.reader) (take l.n l.text);
}

abbrev pub decreases-loop-n : goal.decreases-loop-n
decreases-loop-n g l = length l.initial.text - l.n
