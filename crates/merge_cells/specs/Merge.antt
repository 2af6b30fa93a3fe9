-- Merging two cells, where ways meet. (document 02 §9 and §12)
use Rattle.std.specs.Prelude.{◌≡◌}
use Rattle.refusals.specs.Library.{ℕ, eqb, ℤ, le_z, cond}
use Rattle.cells.specs.Try.{Try, stuck, done}
use Rattle.cells.specs.declared.Value.{Value}
use Rattle.cells.specs.declared.Value.TheVariants.{Range, Handle}
use Rattle.cells.specs.declared.Cell.{Cell}
use Rattle.cells.specs.Cells.{high, between, handle}

-- the smaller of two numbers
abbrev pub lower : ℤ → ℤ → ℤ
lower m n = cond (le_z m n) m n

-- the larger
abbrev pub upper : ℤ → ℤ → ℤ
upper m n = cond (le_z m n) n m

-- "A merge takes the smallest range that covers both."; stuck, which is refusal 14, where "a cell is a handle on one way and anything
-- else on the other"
unfoldable pub merge_values : Value → Value → Try Cell
merge_values (Range low more) (Range low' more') = done (between (lower low low') (upper (high low more) (high low' more')))
merge_values (Range low more) (Handle k) = stuck
merge_values (Handle j) (Range low more) = stuck
merge_values (Handle j) (Handle k) = cond (eqb j k) (done (handle j)) stuck

-- the same of cells
unfoldable pub merge_cells : Cell → Cell → Try Cell
merge_cells a b = merge_values a.value b.value

-- "a cell is a handle on one way and anything else on the other"
pub data Clash : Cell → Cell → Type 0 where
  here : {k : ℕ} {b : Cell} → (handle k ≡ b → ⊥) → Clash (handle k) b
  there : {k : ℕ} {a : Cell} → (a ≡ handle k → ⊥) → Clash a (handle k)
