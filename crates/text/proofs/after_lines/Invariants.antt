-- The invariant: the rest is what is left of s after the lines that were passed, and is no longer than s.
use Rattle.std.proofs.Common.{length, drop, ◌≡◌, ◌≤◌}
use Rattle.text.specs.Text.{lines}
use Rattle.text.proofs.after_lines.Given as goal

abbrev pub invariant-loop : goal.invariant-loop
invariant-loop l = record { lines : lines l.rest ≡ drop l.counter (lines l.s); shorter : length l.rest ≤ length l.s }
