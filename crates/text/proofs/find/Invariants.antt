-- The invariant: k words were looked at and counted, and the word sought comes to the same in the text as in what is left with k words before.
use Rattle.std.proofs.Common.{length, drop, ◌≡◌}
use Rattle.text.specs.Text.{line_words, lookup}
use Rattle.text.proofs.SplitLaws.{lookup_from}
use Rattle.text.proofs.find.Given as goal

abbrev pub invariant-loop-word : goal.invariant-loop-word
invariant-loop-word l = record {
  counted : l.k ≡ length l.yielded;
  looked_at : l.looked ≡ l.k;
  same : lookup l.w (line_words l.text) ≡ lookup_from l.k l.w (drop l.k (line_words l.text));
}
