-- `bound_turns::combined` meets its contract: each arm's code computes, and the default arm's is the last that combines. Assumes nothing.
use mathlib.Core.Path.{◌≡◌}
use Prim.Native.Nat.{ℕ, ◌≤◌}
use native.Mathlib.Omega.{arith}
use Rattle.instructions.specs.HeldColumns.{operations, operation_of}
use Rattle.machine_outcome.specs.HeldOutcome.{operated}
use Rattle.machine_outcome.proofs.CodeLaws.{two_cells}
use Rattle.bound_turns.proofs.combined.Goals as goal

-- the code that is left once seven are passed over
last : (k : ℕ) → 15 ≤ k → k ≤ 22 → (k ≡ 15 → ⊥) → (k ≡ 16 → ⊥) → (k ≡ 17 → ⊥) → (k ≡ 18 → ⊥) → (k ≡ 19 → ⊥) → (k ≡ 20 → ⊥) → (k ≡ 21 → ⊥) → k ≡ 22
last k l h a b c d e f g = let m : 18 ≤ k = early k l a b c in let n : 20 ≤ k = later k m d e in latest k n h f g
  where
    early : (k : ℕ) → 15 ≤ k → (k ≡ 15 → ⊥) → (k ≡ 16 → ⊥) → (k ≡ 17 → ⊥) → 18 ≤ k
    early k l a b c = omega arith

    later : (k : ℕ) → 18 ≤ k → (k ≡ 18 → ⊥) → (k ≡ 19 → ⊥) → 20 ≤ k
    later k l a b = omega arith

    latest : (k : ℕ) → 20 ≤ k → k ≤ 22 → (k ≡ 20 → ⊥) → (k ≡ 21 → ⊥) → k ≡ 22
    latest k l h a b = omega arith

pub returns-in-15 : goal.returns-in-15
unfolding operations operation_of operated
returns-in-15 c = rw c.in-15.is c.operate2.ensures

pub returns-in-16 : goal.returns-in-16
unfolding operations operation_of operated
returns-in-16 c = rw c.in-16.is c.operate2-in-16.ensures

pub returns-in-17 : goal.returns-in-17
unfolding operations operation_of operated
returns-in-17 c = rw c.in-17.is c.operate2-in-17.ensures

pub returns-in-18 : goal.returns-in-18
unfolding operations operation_of operated
returns-in-18 c = rw c.in-18.is c.operate2-in-18.ensures

pub returns-in-19 : goal.returns-in-19
unfolding operations operation_of operated
returns-in-19 c = rw c.in-19.is c.operate2-in-19.ensures

pub returns-in-20 : goal.returns-in-20
unfolding operations operation_of operated
returns-in-20 c = rw c.in-20.is c.operate2-in-20.ensures

pub returns-in-21 : goal.returns-in-21
unfolding operations operation_of operated
returns-in-21 c = rw c.in-21.is c.operate2-in-21.ensures

pub returns-in_default : goal.returns-in_default
unfolding operations operation_of operated
returns-in_default c =
    let rest = c.in_default.in_default-own.rest in
    rw (last _ (two_cells _ c.requires.1) c.requires.0 rest.0.0.0.0.0.0.1 rest.0.0.0.0.0.1 rest.0.0.0.0.1 rest.0.0.0.1 rest.0.0.1 rest.0.1 rest.1) c.operate2-in_default.ensures
