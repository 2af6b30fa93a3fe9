-- The line at the registers' address, where the stack has room for its push: what is reached, by the line and by the room, and what a step is
-- where nothing is. Assumes nothing.
use mathlib.Core.Path.{◌≡◌, refl, sym, ap, ◌∙◌}
use mathlib.Core.Bool.{Bool, true, false, cond}
use Prim.Native.Nat.{ℕ, ◌<◌}
use native.Mathlib.Omega.{arith}
use lib.Dec.{eqb}
use borrow.Author.Tests.{eqb-false, ne_eqb}
use Rattle.cells.specs.Try.{Try, stuck, done, ◌>>=◌}
use Rattle.machine.specs.Machine.{Instruction, Code, fetch}
use Rattle.machine_state.specs.declared.registers.Registers.{Registers}
use Rattle.bound_turns.specs.HeldTurn.{reached}

module _ (c : Code) (r : Registers) where
  pub outside : stuck ≡ fetch c r.at → stuck ≡ reached c r
  unfolding reached ◌>>=◌
  outside e = rw (sym e) refl

  module _ (i : Instruction) (found : done i ≡ fetch c r.at) where
    pub full : i.pushes ≡ true → r.free ≡ 0 → stuck ≡ reached c r
    unfolding reached ◌>>=◌
    full p z = rw (sym found, p, z) refl

    pub room : i.pushes ≡ true → (r.free ≡ 0 → ⊥) → done i ≡ reached c r
    unfolding reached ◌>>=◌
    room p h = rw (sym found, p, ne_eqb r.free 0 h) refl

    pub plain : i.pushes ≡ false → done i ≡ reached c r
    unfolding reached ◌>>=◌
    plain p = rw (sym found, p) refl

  -- a line that is reached: it is the one at the address, and the stack has room for its push
  pub line-there : (i : Instruction) → done i ≡ reached c r → (fetch c r.at ≡ done i) × (i.pushes ≡ true → 0 < r.free)
  unfolding reached ◌>>=◌
  line-there i e = go (fetch c r.at) refl
    where
      from : Instruction → Try Instruction
      from j = cond j.pushes (cond (eqb r.free 0) stuck (done j)) (done j)

      pushing : (j : Instruction) (b z : Bool) → j.pushes ≡ b → eqb r.free 0 ≡ z → done i ≡ cond b (cond z stuck (done j)) (done j) → (done j ≡ done i) × (i.pushes ≡ true → 0 < r.free)
      pushing j true true p q h = let y : ◌≡◌ {A = ℕ} 0 1 = cc in absurd (omega arith)
      pushing j true false p q h = (sym h, λ t. let ne = eqb-false r.free 0 q in omega (arith, ne))
      pushing j false z p q h = (sym h, λ t. let s : j ≡ i = cc in let y : true ≡ false = sym t ∙ ap (λ k. k.pushes) (sym s) ∙ p in let w : ◌≡◌ {A = ℕ} 0 1 = cc in absurd (omega arith))

      go : (m : Try Instruction) → fetch c r.at ≡ m → (fetch c r.at ≡ done i) × (i.pushes ≡ true → 0 < r.free)
      go stuck f = let h : done i ≡ stuck = e ∙ ap (λ m. m >>= from) f in let y : ◌≡◌ {A = ℕ} 0 1 = cc in absurd (omega arith)
      go (done j) f =
          let (same, there) = pushing j j.pushes (eqb r.free 0) refl refl (e ∙ ap (λ m. m >>= from) f) in
          (f ∙ same, there)
