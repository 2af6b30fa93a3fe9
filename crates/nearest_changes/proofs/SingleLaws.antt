-- Which cells hold one number. Assumes nothing.
use Prim.Native.Nat.{ℕ, ◌<◌}
use mathlib.Core.Path.{◌≡◌, refl, sym, ap, ◌∙◌}
use mathlib.Core.Bool.{Bool, true, false, cond}
use native.Mathlib.Omega.{arith}
use lib.Dec.{eqb}
use lib.IntN.{ℤ}
use borrow.Author.Tests.{eq-eqb, ne_eqb, eqb-true}
use Rattle.cells.specs.Try.{stuck, done}
use Rattle.cells.specs.declared.Value.{Value}
use Rattle.cells.specs.declared.Value.TheVariants.{Range, Handle}
use Rattle.cells.specs.declared.Cell.{Cell}
use Rattle.cells.specs.Cells.{cell, range}
use Rattle.nearest_changes.specs.Single.{single, single_in}

module _ (c : Cell) (low : ℤ) (more : ℕ) (e : c.value ≡ Range low more) where
  pub single-one : more ≡ 0 → done low ≡ single c
  unfolding single single_in
  single-one h = sym (ap single_in e ∙ ap (λ b. cond b (done low) stuck) (eq-eqb more 0 h))

  pub single_more : 0 < more → stuck ≡ single c
  unfolding single single_in
  single_more h = sym (ap single_in e ∙ ap (λ b. cond b (done low) stuck) (ne_eqb more 0 (λ z. omega arith)))

pub single-handle : (c : Cell) (k : ℕ) → c.value ≡ Handle k → stuck ≡ single c
unfolding single single_in
single-handle c k e = ap single_in (sym e)

pub single-is : (c : Cell) (v : ℤ) → single c ≡ done v → c ≡ range v 0
unfolding single single_in
single-is c v e = ap cell (go c.value e)
  where
    one : (low : ℤ) (more : ℕ) (b : Bool) → eqb more 0 ≡ b → cond b (done low) stuck ≡ done v → Range low more ≡ Range v 0
    one low more true h e = let l : low ≡ v = cc in rw (l, eqb-true more 0 h) refl
    one low more false h e = let z : ◌≡◌ {A = ℕ} 0 1 = cc in absurd (omega arith)

    go : (x : Value) → single_in x ≡ done v → x ≡ Range v 0
    go (Range low more) e = one low more (eqb more 0) refl e
    go (Handle k) e = let z : ◌≡◌ {A = ℕ} 0 1 = cc in absurd (omega arith)
