-- The invariant: the line sought is the one that the roles from i on and the lines from i on show.
use Rattle.std.proofs.Common.{◌≡◌, drop}
use Rattle.text.specs.Text.{lines}
use Rattle.file_format.specs.Layout.{layout, text_at}
use Rattle.file_layout.proofs.line_in.Given as goal

abbrev pub invariant-loop-i : goal.invariant-loop-i
invariant-loop-i l = text_at l.role layout (lines l.text) ≡ text_at l.role (drop l.i layout) (drop l.i (lines l.text))
