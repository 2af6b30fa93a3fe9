-- The invariant: the extras of the line are in range as those that are left are, under the names that are left.
use Rattle.std.proofs.Common.{◌≡◌, length, drop}
use Rattle.text.specs.Text.{line_words}
use Rattle.file_format.specs.Rows.{extras_in_range}
use Rattle.file_lines.proofs.extras_in_range.Given as goal

abbrev pub invariant-loop-w : goal.invariant-loop-w
invariant-loop-w l = extras_in_range (line_words l.names) (line_words l.line) ≡ extras_in_range (line_words l.above) (drop (length l.yielded) (line_words l.line))
