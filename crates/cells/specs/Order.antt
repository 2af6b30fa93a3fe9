-- The erasure order of cells, and which plain cells a cell allows.
use Rattle.std.specs.Prelude.{◌∷◌, ◌≡◌}
use Rattle.refusals.specs.Library.{ℕ, ℤ, le_z, true, List, []}
use Rattle.cells.specs.declared.Cell.{Cell}
use Rattle.cells.specs.Cells.{range, high, handle}

-- the range of `low` and `more` beyond it lies in that of `low'` and `more'`
pub record Inside (low : ℤ) (more : ℕ) (low' : ℤ) (more' : ℕ) : Type 0 where
  pub least : le_z low' low ≡ true
  pub greatest : le_z (high low more) (high low' more') ≡ true

-- Erasure (Definition 3 of document 000, a ↘ b): b is a, or both are ranges and b covers a
pub data Refines : Cell → Cell → Type 0 where
  same : {a : Cell} → Refines a a
  inside : {low low' : ℤ} {more more' : ℕ} → Inside low more low' more' → Refines (range low more) (range low' more')

-- a plain cell, and b allows it: a single number of its range, or the same handle; "a known number or a handle is the same in it, and a
-- `?` is some number"; "Any start within the ranges" (document 02 §12)
pub data Allowed : Cell → Cell → Type 0 where
  among : {n low : ℤ} {more : ℕ} → Inside n 0 low more → Allowed (range n 0) (range low more)
  same_handle : {k : ℕ} → Allowed (handle k) (handle k)

-- a relation of cells, entry by entry, on lists of one length: "as many stack entries as the file"
pub data Pointwise {A : Type 0} (R : A → A → Type 0) : List A → List A → Type 0 where
  end : Pointwise R [] []
  cons : {a b : A} {xs ys : List A} → R a b → Pointwise R xs ys → Pointwise R (a ∷ xs) (b ∷ ys)
