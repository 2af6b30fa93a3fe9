-- The fault sought is that of the words left, the first of which has the index `index`, after `count` instructions. The measure is the length
-- of what is left.
use Rattle.std.proofs.Common.{◌≡◌, ◌+◌, ◌*◌, ◌≤◌, length}
use Rattle.words.specs.Words.{words_of}
use Rattle.words.specs.Decoding.{opcode, decoded_words, word_fault, fault_from}
use Rattle.words.proofs.word_fault.Given as goal

abbrev pub invariant-loop-rest : goal.invariant-loop-rest
invariant-loop-rest l = record {
  same : word_fault l.listed (words_of l.words) ≡ fault_from l.listed l.count (decoded_words opcode l.index (words_of l.rest));
  passed : 4 * l.index + length l.rest ≡ length l.words;
  few : l.count ≤ 1024;
}

abbrev pub decreases-loop-rest : goal.decreases-loop-rest
decreases-loop-rest l = length l.rest
