-- What is promised of the operations on ranges, as statements. The file Theorems in proofs/ proves each by its name. (document 02 §12)
use Rattle.std.specs.Prelude.{◌+◌, ◌<◌, ◌≡◌}
use Rattle.refusals.specs.Library.{ℕ, ℤ, pos, true, false}
use Rattle.numbers.specs.Numbers.{IsNumber, holds}
use Rattle.numbers.specs.declared.Comparison.{Comparison}
use Rattle.cells.specs.declared.Unary.{Unary}
use Rattle.cells.specs.declared.Binary.{Binary}
use Rattle.cells.specs.declared.Binary.TheVariants.{Compare}
use Rattle.cells.specs.declared.Condition.TheVariants.{IsZero, IsNonzero, IsUnknown}
use Rattle.cells.specs.Try.{done}
use Rattle.cells.specs.Cells.{range, exactly, unknown, calculate₁, calculate₂, range₁, range₂, condition}
use Rattle.cells.specs.Order.{Inside, Refines}

-- n is a number of the range of `low` and `more` beyond it
abbrev pub Of : ℤ → ℤ → ℕ → Type 0
Of n low more = Inside n 0 low more

-- an operation on one range
pub record Exact₁ (u : Unary) (i low : ℤ) (more : ℕ) : Type 0 where
  -- it covers the operation on every number
  pub covers : (n : ℤ) → Of n low more → Refines (exactly (calculate₁ u i n)) (range₁ u i low more)
  -- "the least to the greatest result": where none would wrap, every range with all results covers it
  pub smallest : ((n : ℤ) → Of n low more → IsNumber (calculate₁ u i n)) → (l : ℤ) (m : ℕ) → ((n : ℤ) → Of n low more → Of (calculate₁ u i n) l m) → Refines (range₁ u i low more) (range l m)
  -- "or the whole range if some result would wrap"
  pub wraps : 0 < more → (n : ℤ) → Of n low more → (IsNumber (calculate₁ u i n) → ⊥) → range₁ u i low more ≡ unknown

abbrev pub EveryUnary : Type 0
EveryUnary = (u : Unary) (i low : ℤ) (more : ℕ) → Exact₁ u i low more

-- an operation on two
pub record Exact₂ (b : Binary) (low : ℤ) (more : ℕ) (low' : ℤ) (more' : ℕ) : Type 0 where
  pub covers : (m n : ℤ) → Of m low more → Of n low' more' → Refines (exactly (calculate₂ b m n)) (range₂ b low more low' more')
  pub smallest : ((m n : ℤ) → Of m low more → Of n low' more' → IsNumber (calculate₂ b m n)) → (l : ℤ) (k : ℕ) →
      ((m n : ℤ) → Of m low more → Of n low' more' → Of (calculate₂ b m n) l k) → Refines (range₂ b low more low' more') (range l k)
  pub wraps : 0 < more + more' → (m n : ℤ) → Of m low more → Of n low' more' → (IsNumber (calculate₂ b m n) → ⊥) → range₂ b low more low' more' ≡ unknown

abbrev pub EveryBinary : Type 0
EveryBinary = (b : Binary) (low : ℤ) (more : ℕ) (low' : ℤ) (more' : ℕ) → Exact₂ b low more low' more'

-- "a comparison gives 1 if it holds for every pair of numbers in the two ranges, 0 if for none, else 0 to 1"
pub record Compared (c : Comparison) (low : ℤ) (more : ℕ) (low' : ℤ) (more' : ℕ) : Type 0 where
  pub every : ((m n : ℤ) → Of m low more → Of n low' more' → holds c m n ≡ true) → range₂ (Compare c) low more low' more' ≡ exactly (pos 1)
  pub none : ((m n : ℤ) → Of m low more → Of n low' more' → holds c m n ≡ false) → range₂ (Compare c) low more low' more' ≡ exactly (pos 0)
  pub some : (((m n : ℤ) → Of m low more → Of n low' more' → holds c m n ≡ true) → ⊥) → (((m n : ℤ) → Of m low more → Of n low' more' → holds c m n ≡ false) → ⊥)
      → range₂ (Compare c) low more low' more' ≡ range (pos 0) 1

abbrev pub EveryComparison : Type 0
EveryComparison = (c : Comparison) (low : ℤ) (more : ℕ) (low' : ℤ) (more' : ℕ) → Compared c low more low' more'

-- "A condition whose range lacks 0, or is only 0, opens no second way."; on 0 and other numbers both are open
pub record Conditioned (low : ℤ) (more : ℕ) : Type 0 where
  pub lacks : (Of (pos 0) low more → ⊥) → condition (range low more) ≡ done IsNonzero
  pub only : ((n : ℤ) → Of n low more → n ≡ pos 0) → condition (range low more) ≡ done IsZero
  pub leaves : Of (pos 0) low more → (n : ℤ) → Of n low more → (n ≡ pos 0 → ⊥) → condition (range low more) ≡ done IsUnknown

abbrev pub EveryCondition : Type 0
EveryCondition = (low : ℤ) (more : ℕ) → Conditioned low more
