-- The fault sought is that of the words left, the first of which has the index `index`. The measure is the length of what is left.
use Rattle.std.proofs.Common.{◌≡◌, length}
use Rattle.words.specs.Words.{words_of}
use Rattle.words.specs.Decoding.{opcode, decoded_words, decoded, items, offset_fault}
use Rattle.words.proofs.OffsetLaws.{Ahead}
use Rattle.words.proofs.offset_fault.Given as goal

abbrev pub invariant-loop-k : goal.invariant-loop-k
invariant-loop-k l = record {
  ahead : Ahead l.index (words_of l.rest);
  same : offset_fault (items (decoded (words_of l.words))) (items (decoded (words_of l.words))) ≡ offset_fault (items (decoded (words_of l.words))) (items (decoded_words opcode l.index (words_of l.rest)));
}

abbrev pub decreases-loop-k : goal.decreases-loop-k
decreases-loop-k l = length l.rest
