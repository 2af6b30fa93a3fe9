-- `cells::operate2` meets its contract. Assumes nothing.
use borrow.Author.Rules.{rules}
use mathlib.Core.Path.{◌≡◌, refl, ap, ◌∙◌}
use Prim.Native.Nat.{ℕ}
use lib.IntN.{ℤ}
use mir.Syntax.{w32}
use mir.Val.{SFits}
use Rattle.numbers.proofs.SignedLaws.{read, read-both}
use Rattle.cells.specs.declared.Cell.{Cell}
use Rattle.cells.specs.declared.Binary.{Binary}
use Rattle.cells.specs.declared.Value.TheVariants.{Range}
use Rattle.cells.specs.Try.{done}
use Rattle.cells.specs.Cells.{range₂, map₂, operate₂}
use Rattle.cells.proofs.AnswerLaws.{operated₂}
use Rattle.cells.proofs.operate2.Goals as goal

ranges : (b : Binary) (a c : Cell) (l : ℤ) (m : ℕ) (k : ℤ) (n : ℕ) {x : Cell} → SFits w32 l → SFits w32 k → a.value ≡ Range l m → c.value ≡ Range k n
    → x ≡ range₂ b (read w32 l) m (read w32 k) n → done x ≡ operate₂ b a c
unfolding map₂
ranges b a c l m k n f g p q e = operated₂ b a c p q (ap done (e ∙ read-both (λ (y z : ℤ). range₂ b y m z n) w32 l k f g))

pub returns-in-Range-right : goal.returns-in-Range-right
returns-in-Range-right c =
    let left = c.in-Range in
    let right = c.in-Range-right in
    ranges _ _ _ left.low left.more right.low2 right.more2 (search rules) (search rules) left.is right.is c.combine_ranges.ensures

pub returns-in-Handle-right : goal.returns-in-Handle-right
unfolding map₂
returns-in-Handle-right c = operated₂ _ _ _ c.in-Range.is c.in-Handle-right.is refl

pub returns-in-Range-right-2 : goal.returns-in-Range-right-2
unfolding map₂
returns-in-Range-right-2 c = operated₂ _ _ _ c.in-Handle.is c.in-Range-right-2.is refl

pub returns-in-Handle-right-2 : goal.returns-in-Handle-right-2
unfolding map₂
returns-in-Handle-right-2 c = operated₂ _ _ _ c.in-Handle.is c.in-Handle-right-2.is c.combine_handles.ensures
