-- What the code holds of a word.
use Rattle.std.specs.Prelude.{◌≤◌, ◌<◌, ◌≡◌}
use Rattle.refusals.specs.Library.{ℕ, mag}
use Rattle.numbers.specs.declared.Range.{Range}
use Rattle.numbers.specs.Numbers.{naturals}
use Rattle.text_decimals.specs.HeldMagnitude.{most, clamp}
use Rattle.file_format.specs.declared.CellWord.{CellWord}
use Rattle.file_format.specs.declared.CellWord.TheVariants.{Wrong, Unknown, Known, Block, Span}

-- a range that a clamped number is within exactly if the number is: both ends are less than `most` away from 0
pub record Near (r : Range) : Type 0 where
  pub low : mag r.low < most
  pub high : mag r.high < most

-- a range of natural numbers of 32 bits
pub record NaturalRange (r : Range) : Type 0 where
  pub least : ℕ
  pub greatest : ℕ
  pub is : r ≡ naturals least greatest
  pub small : (least ≤ 4294967295) × (greatest ≤ 4294967295)

-- a cell word with its numbers clamped
unfoldable pub clamped_cell : CellWord → CellWord
clamped_cell Wrong = Wrong
clamped_cell Unknown = Unknown
clamped_cell (Known z) = Known (clamp z)
clamped_cell (Block k) = Block (clamp k)
clamped_cell (Span lo hi) = Span (clamp lo) (clamp hi)
