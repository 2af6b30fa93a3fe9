-- `cells::combine_ranges` meets its contract. Assumes nothing.
use mathlib.Core.Path.{◌≡◌, sym, ap, ◌∙◌}
use mathlib.Core.Bool.{Bool, cond}
use Prim.Native.Nat.{ℕ, ◌+◌}
use lib.IntN.{ℤ}
use mir.Syntax.{w32}
use mir.Val.{SFits}
use borrow.Author.Tests.{eq-eqb, ne_eqb}
use Rattle.numbers.specs.Numbers.{wrap}
use Rattle.numbers.proofs.SignedLaws.{read, read-both}
use Rattle.cells.specs.declared.Cell.{Cell}
use Rattle.cells.specs.declared.Binary.{Binary}
use Rattle.cells.specs.Cells.{range, exactly, calculate₂, wider, range₂}
use Rattle.cells.proofs.AnswerLaws.{entered}
use Rattle.cells.proofs.combine_ranges.Goals as goal

module _ (b : Binary) (l : ℤ) (m : ℕ) (k : ℤ) (n : ℕ) (f : SFits w32 l) (g : SFits w32 k) where
  single : {r : ℤ} → m + n ≡ 0 → r ≡ wrap (calculate₂ b (read w32 l) (read w32 k)) → range (read w32 r) 0 ≡ range₂ b l m k n
  unfolding range₂
  single e p = entered (calculate₂ b l k) p (read-both (calculate₂ b) w32 l k f g) ∙ ap (λ (t : Bool). cond t (exactly (calculate₂ b l k)) (wider b l m k n)) (sym (eq-eqb (m + n) 0 e))

  wide : {x : Cell} → (m + n ≡ 0 → ⊥) → x ≡ wider b (read w32 l) m (read w32 k) n → x ≡ range₂ b l m k n
  unfolding range₂
  wide e p =
      p ∙ read-both (λ (y z : ℤ). wider b y m z n) w32 l k f g
      ∙ ap (λ (t : Bool). cond t (exactly (calculate₂ b l k)) (wider b l m k n)) (sym (ne_eqb (m + n) 0 e))

pub returns-then-more-more2-eq0 : goal.returns-then-more-more2-eq0
returns-then-more-more2-eq0 c =
    single _ _ _ _ _ c.ranges.low c.ranges.low2 c.if-more-more2-eq0.true c.calculate2.ensures

pub returns : goal.returns
returns c =
    wide _ _ _ _ _ c.ranges.low c.ranges.low2 c.if-more-more2-eq0.false c.wider.ensures
