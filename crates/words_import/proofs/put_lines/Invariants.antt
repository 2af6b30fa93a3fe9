-- The lines of the instructions before `index` are written (`Writing`). The measure is the length of what is left.
use Rattle.std.proofs.Common.{length}
use Rattle.file_format.specs.Layout.{list}
use Rattle.words.specs.Words.{words_of}
use Rattle.words_import.proofs.WritingLaws.{Writing}
use Rattle.words_import.proofs.put_lines.Given as goal

abbrev pub invariant-loop-k : goal.invariant-loop-k
invariant-loop-k l = Writing (list l.primitives) l.fn.out l.at (words_of l.words) l.out l.e l.index l.count (words_of l.rest)

abbrev pub decreases-loop-k : goal.decreases-loop-k
decreases-loop-k l = length l.rest
