-- The words of as many lines as there were turns are written, up to `index` (`Exporting`); the other lines are those of what is left.
use Rattle.std.proofs.Common.{◌≡◌, length, take, drop}
use Rattle.text.specs.Text.{lines}
use Rattle.file_format.specs.Layout.{list}
use Rattle.words_export.specs.HeldLines.{ops_in}
use Rattle.words_export.proofs.ExportingLaws.{Exporting}
use Rattle.words_export.proofs.put_lines.Given as goal

abbrev pub invariant-loop : goal.invariant-loop
invariant-loop l = record {
  others : lines l.rest ≡ drop l.counter (lines l.body);
  written : Exporting l.indices (ops_in (list l.primitives) l.first (take (length l.indices) (lines l.body))) l.fn.out l.out l.index l.counter;
}
