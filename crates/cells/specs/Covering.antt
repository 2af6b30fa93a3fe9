-- What it is that results agree where cells agree: an action is covered by another where it gives something related whenever the other gives
-- something. Where the other is not stuck, neither is it. (document 02 §3)
use Rattle.std.specs.Prelude.{◌≡◌}
use Rattle.refusals.specs.Library.{ℤ}
use Rattle.cells.specs.Try.{Try, stuck, done}
use Rattle.cells.specs.declared.Cell.{Cell}
use Rattle.cells.specs.declared.Unary.{Unary}
use Rattle.cells.specs.declared.Binary.{Binary}
use Rattle.cells.specs.declared.Condition.{Condition}
use Rattle.cells.specs.declared.Condition.TheVariants.{IsZero, IsNonzero, IsUnknown}
use Rattle.cells.specs.Cells.{exactly, operate₁, operate₂, condition, block}
use Rattle.cells.specs.Order.{Refines, Allowed}

pub data Covered {A : Type 0} (R : A → A → Type 0) : Try A → Try A → Type 0 where
  by_stuck : {m : Try A} → Covered R m stuck
  both : {a b : A} → R a b → Covered R (done a) (done b)

-- a condition that another leaves open. `two` is what must hold for both sides to be unknown: Unit where either side may be, ⊥ where
-- the first is plain
pub data Narrower (two : Type 0) : Condition → Condition → Type 0 where
  zeros : Narrower two IsZero IsZero
  nonzeros : Narrower two IsNonzero IsNonzero
  zero_unknown : Narrower two IsZero IsUnknown
  nonzero_unknown : Narrower two IsNonzero IsUnknown
  unknowns : two → Narrower two IsUnknown IsUnknown

-- "Cells that agree must still give results that agree": of a relation of cells, in every operation on them
pub record Lawful (R : Cell → Cell → Type 0) (two : Type 0) : Type 0 where
  pub numbers : (n : ℤ) → R (exactly n) (exactly n)
  pub operates₁ : (u : Unary) (i : ℤ) {a a' : Cell} → R a a' → Covered R (operate₁ u i a) (operate₁ u i a')
  pub operates₂ : (b : Binary) {a c a' c' : Cell} → R a a' → R c c' → Covered R (operate₂ b a c) (operate₂ b a' c')
  pub conditions : {a a' : Cell} → R a a' → Covered (Narrower two) (condition a) (condition a')
  pub blocks : {a a' : Cell} → R a a' → Covered ◌≡◌ (block a) (block a')

-- so of the erasure order, and of the plain cells that a cell allows, which never leave a condition open
abbrev pub ResultsAgree : Type 0
ResultsAgree = Lawful Refines (Unit {0}) × Lawful Allowed ⊥
