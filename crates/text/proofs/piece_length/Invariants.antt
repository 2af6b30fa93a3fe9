-- The invariant of both loops: i bytes of the first piece are passed. The measure of the first is what is left of the text.
use Rattle.std.proofs.Common.{length, ◌-◌, ◌≤◌}
use Rattle.text.proofs.ScanLaws.{Passed}
use Rattle.text.proofs.piece_length.Given as goal

abbrev pub invariant-loop-i : goal.invariant-loop-i
invariant-loop-i l = record { in_text : l.i ≤ length l.s; passed : Passed l.c l.s l.i }

abbrev pub decreases-loop-i : goal.decreases-loop-i
decreases-loop-i l = length l.s - l.i

abbrev pub invariant-loop-k : goal.invariant-loop-k
invariant-loop-k l = record { in_text : l.k ≤ length l.s; passed : Passed l.c l.s l.k }
