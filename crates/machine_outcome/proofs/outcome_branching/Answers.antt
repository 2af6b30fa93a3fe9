-- `machine_outcome::outcome_branching` meets its contract. Assumes nothing.
use Rattle.std.specs.Prelude.{Option, Some}
use mathlib.Core.Path.{◌≡◌, refl, sym, ap, ap₂, ◌∙◌}
use mathlib.Core.Bool.{Bool}
use Rattle.cells.specs.Try.{Try, done}
use Rattle.cells.specs.declared.Cell.{Cell}
use Rattle.cells.specs.declared.Condition.{Condition}
use Rattle.cells.specs.Cells.{condition}
use Rattle.machine_outcome.specs.HeldOutcome.{branching}
use Rattle.machine_outcome.proofs.outcome_branching.Goals as goal

-- the condition that the code found
found : {t : Option Condition} {x y : Condition} (a : Cell) → t ≡ condition a → t ≡ Some x → x ≡ y → done y ≡ condition a
found a e p q = sym (p ∙ ap done q) ∙ e

branched : {z b : Bool} {m : Try Condition} (a : Cell) → z ≡ b → m ≡ condition a → branching b a m ≡ branching z a (condition a)
branched a p q = ap₂ (λ b m. branching b a m) (sym p) q

pub returns-in_default : goal.returns-in_default
unfolding branching
returns-in_default c = branched _ refl ((sym c.in_default.is) ∙ c.condition_of-tested.ensures)

pub returns-then-zero : goal.returns-then-zero
unfolding branching
returns-then-zero c =
    branched _ c.if-zero.true (found _ c.condition_of-tested.ensures c.in-Some.is c.in-IsZero.is)

pub returns-else-zero : goal.returns-else-zero
unfolding branching
returns-else-zero c =
    branched _ c.if-zero.false (found _ c.condition_of-tested.ensures c.in-Some.is c.in-IsZero.is)

pub returns-then-zero-2 : goal.returns-then-zero-2
unfolding branching
returns-then-zero-2 c =
    branched _ c.if-zero-2.true (found _ c.condition_of-tested.ensures c.in-Some.is c.in-IsNonzero.is)

pub returns-else-zero-2 : goal.returns-else-zero-2
unfolding branching
returns-else-zero-2 c =
    branched _ c.if-zero-2.false (found _ c.condition_of-tested.ensures c.in-Some.is c.in-IsNonzero.is)

pub returns-in-IsUnknown : goal.returns-in-IsUnknown
unfolding branching
returns-in-IsUnknown c =
    branched _ refl (found _ c.condition_of-tested.ensures c.in-Some.is c.in-IsUnknown.is)
