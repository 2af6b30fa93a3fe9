-- What the code's operations give is what their definitions give. Assumes nothing.
use mathlib.Core.Path.{◌≡◌, sym, ap, ◌∙◌}
use Prim.Native.Nat.{ℕ}
use lib.IntN.{ℤ}
use mir.Syntax.{w32}
use Rattle.numbers.specs.Numbers.{wrap}
use Rattle.numbers.proofs.SignedLaws.{read, wrap-fits, result-read}
use Rattle.numbers.specs.declared.Comparison.{Comparison}
use Rattle.cells.specs.declared.Value.{Value}
use Rattle.cells.specs.declared.Cell.{Cell}
use Rattle.cells.specs.declared.Unary.{Unary}
use Rattle.cells.specs.declared.Binary.{Binary}
use Rattle.cells.specs.Cells.{range, exactly, map₁, compare_handles, combine_handles, map₂, operate₁, operate₂}
use Rattle.cells.specs.Try.{Try}

-- r is the wrapped result of the operation d
pub calculated : {D : Type 0} (f : D → ℤ) (d : D) {e : D} {r m : ℤ} → d ≡ e → r ≡ wrap m → m ≡ f e → read w32 r ≡ wrap (f d)
calculated f d {r = r} {m = m} p q g = result-read (wrap-fits m) (sym q) ∙ ap wrap (g ∙ ap f (sym p))

-- the cell of such a result
pub entered : (n : ℤ) {r m : ℤ} → r ≡ wrap m → m ≡ n → range (read w32 r) 0 ≡ exactly n
entered n {r = r} {m = m} q e = ap (λ z. range z 0) (result-read (wrap-fits m) (sym q) ∙ ap wrap e)

pub operated₁ : (u : Unary) (i : ℤ) (a : Cell) {v : Value} {m : Try Cell} → a.value ≡ v → m ≡ map₁ u i v → m ≡ operate₁ u i a
unfolding operate₁
operated₁ u i a p e = e ∙ ap (map₁ u i) (sym p)

pub operated₂ : (b : Binary) (a c : Cell) {v w : Value} {m : Try Cell} → a.value ≡ v → c.value ≡ w → m ≡ map₂ b v w → m ≡ operate₂ b a c
unfolding operate₂
operated₂ b a c {w = w} p q e = e ∙ ap (λ v. map₂ b v w) (sym p) ∙ ap (map₂ b a.value) (sym q)

pub compared : (c : Comparison) (j k : ℕ) {d : Comparison} {m : Try Cell} → c ≡ d → m ≡ compare_handles d j k → m ≡ compare_handles c j k
compared c j k p e = e ∙ ap (λ d. compare_handles d j k) (sym p)

pub combined : (b : Binary) (j k : ℕ) {d : Binary} {m : Try Cell} → b ≡ d → m ≡ combine_handles d j k → m ≡ combine_handles b j k
combined b j k p e = e ∙ ap (λ d. combine_handles d j k) (sym p)
