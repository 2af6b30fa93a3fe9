-- The invariant: the line is well named where the words left name kinds that are not marked.
use Rattle.std.proofs.Common.{◌≡◌, length, drop}
use Rattle.text.specs.Text.{line_words}
use Rattle.file_format.specs.declared.Section.TheVariants.{Kinds}
use Rattle.file_format.specs.Rows.{well_named}
use Rattle.file_lines.proofs.SeenLaws.{all_new}
use Rattle.file_lines.proofs.kinds_named.Given as goal

abbrev pub invariant-loop-word : goal.invariant-loop-word
invariant-loop-word l = well_named Kinds (line_words l.line) ≡ all_new l.seen (drop (length l.yielded) (line_words l.line))
