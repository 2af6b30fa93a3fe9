-- The instructions before `index` are entered (`Numbering`). The measure is the length of what is left.
use Rattle.std.proofs.Common.{length}
use Rattle.words.specs.Words.{words_of}
use Rattle.words.proofs.NumberingLaws.{Numbering}
use Rattle.words.proofs.numbers_of.Given as goal

abbrev pub invariant-loop-k : goal.invariant-loop-k
invariant-loop-k l = Numbering (words_of l.words) l.numbers l.index l.count (words_of l.rest)

abbrev pub decreases-loop-k : goal.decreases-loop-k
decreases-loop-k l = length l.rest
