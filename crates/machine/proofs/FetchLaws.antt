-- A fetched instruction is one of the code, and its address is one of the code's. Assumes nothing.
use mathlib.Core.Path.{◌≡◌, refl}
use mathlib.Core.Bool.{Bool, true, false, cond}
use mathlib.Core.List.{List, [], ◌∷◌}
use Prim.Native.Nat.{ℕ, zero, suc, ◌+◌, ◌-◌, ◌<◌, ◌≤◌}
use native.Mathlib.Omega.{arith}
use lib.Dec.{ltb}
use lib.ListN.{length}
use borrow.Author.Tests.{ltb-false}
use Rattle.text.proofs.TextLaws.{Every, none, more}
use Rattle.cells.specs.Try.{stuck, done}
use Rattle.machine.specs.Lists.{nth}
use Rattle.machine.specs.Machine.{Instruction, Code, fetch}

module _ {A : Type 0} where
  pub stuck-not : {B : Type 0} (x : A) → stuck ≡ done x → B
  stuck-not x e = let z : ◌≡◌ {A = ℕ} 0 1 = cc in absurd (omega arith)

  nth-below : (n : ℕ) (xs : List A) {x : A} → nth n xs ≡ done x → n < length xs
  unfolding nth
  nth-below n [] {x} e = stuck-not x e
  nth-below zero (y ∷ ys) e = omega arith
  nth-below (suc n) (y ∷ ys) e = omega (arith, nth-below n ys e)

  nth-every : {P : A → Type 0} {xs : List A} → Every P xs → (n : ℕ) {x : A} → nth n xs ≡ done x → P x
  unfolding nth
  nth-every none n {x} e = stuck-not x e
  nth-every (more {x = y} p ps) zero {x} e = let h : y ≡ x = cc in rw h at p
  nth-every (more p ps) (suc n) e = nth-every ps n e

module _ (c : Code) (a : ℕ) (i : Instruction) (fetched : fetch c a ≡ done i) where
  pub from_first : (c.first ≤ a) × (nth (a - c.first) c.instructions ≡ done i)
  unfolding fetch
  from_first = go (ltb a c.first) refl fetched
    where
      go : (b : Bool) → ltb a c.first ≡ b → cond b stuck (nth (a - c.first) c.instructions) ≡ done i → (c.first ≤ a) × (nth (a - c.first) c.instructions ≡ done i)
      go true q e = stuck-not i e
      go false q e = (ltb-false a c.first q, e)

  pub fetch-below : a < c.first + length c.instructions
  fetch-below = let h = nth-below (a - c.first) c.instructions from_first.1 in omega arith

  pub fetch-every : {P : Instruction → Type 0} → Every P c.instructions → P i
  fetch-every h = nth-every h (a - c.first) from_first.1
