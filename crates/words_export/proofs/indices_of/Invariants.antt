-- The first `place` entries are the indices of the first lines, and the next is `index` (`Indexing`); the other lines are those of what is left.
use Rattle.std.proofs.Common.{◌≡◌, ℕ, List, take, drop}
use Rattle.text.specs.Text.{lines}
use Rattle.words_export.specs.HeldLines.{ops_in}
use Rattle.words_export.proofs.ExportingLaws.{Indexing}
use Rattle.words_export.proofs.indices_of.Given as goal

abbrev pub invariant-loop-place : goal.invariant-loop-place
invariant-loop-place l = record {
  others : lines l.rest ≡ drop l.place (lines l.body);
  found : (ps : List (List ℕ)) (first : ℕ) → Indexing (ops_in ps first (take l.count (lines l.body))) l.indices l.index l.place;
}
