-- The invariant: the blocks hold their own sizes, and the sizes of the line are those with the names that are left.
use Rattle.std.proofs.Common.{◌≡◌, length, take, drop}
use Rattle.text.specs.Text.{line_words}
use Rattle.file_format.specs.Layout.{list}
use Rattle.file_format.specs.Rows.{block_sizes}
use Rattle.file_names.proofs.BlockLaws.{grow, Own}
use Rattle.file_names.proofs.blocks_named.Given as goal

abbrev pub invariant-loop-name : goal.invariant-loop-name
invariant-loop-name l = record {
  same : block_sizes (list l.line) ≡ grow 0 (take l.blocks.count l.blocks.sizes) (drop (length l.yielded) (line_words l.line));
  own : Own l.blocks;
}
