-- `cells::operate1` meets its contract. Assumes nothing.
use borrow.Author.Rules.{rules}
use mathlib.Core.Path.{◌≡◌, refl, sym, ap, ◌∙◌}
use mathlib.Core.Bool.{Bool, cond}
use Prim.Native.Nat.{ℕ, ◌<◌, ◌^◌}
use lib.IntN.{ℤ}
use mir.Syntax.{w32, w64}
use mir.Val.{SFits}
use mir.ValLaws.{to_z-of_z}
use native.Mathlib.Omega.{arith}
use borrow.Author.Tests.{eq-eqb, ne_eqb}
use Rattle.numbers.specs.Numbers.{wrap}
use Rattle.numbers.proofs.SignedLaws.{read, read-both}
use Rattle.cells.specs.declared.Cell.{Cell}
use Rattle.cells.specs.declared.Unary.{Unary}
use Rattle.cells.specs.declared.Value.TheVariants.{Range}
use Rattle.cells.specs.Try.{done}
use Rattle.cells.specs.HeldSmall.{Small}
use Rattle.cells.specs.Cells.{range, exactly, calculate₁, results, least₁, range₁, map₁, operate₁}
use Rattle.cells.proofs.AnswerLaws.{entered, operated₁}
use Rattle.cells.proofs.ComputeLaws.{least-near, near-64, near-small}
use Rattle.cells.proofs.operate1.Goals as goal

module _ (u : Unary) (i : ℤ) (a : Cell) (l : ℤ) (m : ℕ) (f : SFits w32 i) (g : SFits w32 l) where
  -- a single number
  single : a.value ≡ Range l m → m ≡ 0 → {r : ℤ} → r ≡ wrap (calculate₁ u (read w32 i) (read w32 l)) → done (range (read w32 r) 0) ≡ operate₁ u i a
  unfolding map₁ range₁
  single held e p =
      operated₁ u i a held
      (ap done
      (entered (calculate₁ u i l) p (read-both (calculate₁ u) w32 i l f g)
      ∙ ap (λ (t : Bool). cond t (exactly (calculate₁ u i l)) (results (least₁ u i l m) m)) (sym (eq-eqb m 0 e))))

  module _ (few : m < 2 ^ 32) {r : ℤ} (least : r ≡ least₁ u (read w32 i) (read w32 l) m) where
    told : read w64 r ≡ least₁ u i l m
    told = ap (read w64) (least ∙ read-both (λ (x y : ℤ). least₁ u x y m) w32 i l f g) ∙ to_z-of_z w64 _ (near-64 _ (least-near u i l m f g few))

    pub small : Small (read w64 r) m
    small = rw told (near-small (least₁ u i l m) m (least-near u i l m f g few) (omega arith))

    pub wide : a.value ≡ Range l m → (m ≡ 0 → ⊥) → {x : Cell} → x ≡ results (read w64 r) m → done x ≡ operate₁ u i a
    unfolding map₁ range₁
    wide held n p =
        operated₁ u i a held
        (ap done (p ∙ ap (λ (z : ℤ). results z m) told ∙ ap (λ (t : Bool). cond t (exactly (calculate₁ u i l)) (results (least₁ u i l m) m)) (sym (ne_eqb m 0 n))))

pub results-requires : goal.results-requires
results-requires c =
    let known = c.in-Range in
    small c.args.u c.args.i c.args.a known.low known.more c.ranges.i (search rules) (search rules) c.least1.ensures

pub returns-then-more-eq0 : goal.returns-then-more-eq0
returns-then-more-eq0 c =
    let known = c.in-Range in
    single c.args.u c.args.i c.args.a known.low known.more c.ranges.i (search rules) known.is c.if-more-eq0.true c.calculate1.ensures

pub returns-else-more-eq0 : goal.returns-else-more-eq0
returns-else-more-eq0 c =
    let known = c.in-Range in
    wide c.args.u c.args.i c.args.a known.low known.more c.ranges.i (search rules) (search rules) c.least1.ensures known.is c.if-more-eq0.false c.results.ensures

pub returns-in-Handle : goal.returns-in-Handle
unfolding map₁
returns-in-Handle c = operated₁ _ _ _ c.in-Handle.is refl
