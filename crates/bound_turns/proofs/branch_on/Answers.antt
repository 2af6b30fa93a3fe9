-- `bound_turns::branch_on` meets its contract. Assumes nothing.
use Rattle.std.specs.Prelude.{Option, Some}
use mathlib.Core.Path.{◌≡◌, refl, sym, ap, ap₂, ◌∙◌}
use mathlib.Core.Bool.{Bool}
use Prim.Native.Nat.{ℕ}
use Rattle.cells.specs.Try.{Try, done}
use Rattle.cells.specs.declared.Cell.{Cell}
use Rattle.cells.specs.declared.Condition.{Condition}
use Rattle.cells.specs.Cells.{condition}
use Rattle.machine_state.specs.declared.registers.Registers.{Registers}
use Rattle.bound_turns.specs.declared.Turn.TheVariants.{Goes, Jumps}
use Rattle.bound_turns.specs.HeldTurn.{branching}
use Rattle.bound_turns.proofs.branch_on.Goals as goal

-- the condition that the code found
found : {t : Option Condition} {x y : Condition} (a : Cell) → t ≡ condition a → t ≡ Some x → x ≡ y → done y ≡ condition a
found a e p q = sym (p ∙ ap done q) ∙ e

branched : {z b : Bool} {m : Try Condition} (n : ℕ) (r : Registers) → z ≡ b → m ≡ condition r.accu → branching b n r m ≡ branching z n r (condition r.accu)
branched n r p q = ap₂ (λ b m. branching b n r m) (sym p) q

pub returns-in_default : goal.returns-in_default
unfolding branching
returns-in_default c = branched _ _ refl ((sym c.in_default.is) ∙ c.condition_of-tested.ensures)

pub returns-then-zero : goal.returns-then-zero
unfolding branching
returns-then-zero c =
    ap Jumps c.jump.ensures ∙ branched _ _ c.if-zero.true (found _ c.condition_of-tested.ensures c.in-Some.is c.in-IsZero.is)

pub returns-else-zero : goal.returns-else-zero
unfolding branching
returns-else-zero c =
    ap Goes c.advance.ensures ∙ branched _ _ c.if-zero.false (found _ c.condition_of-tested.ensures c.in-Some.is c.in-IsZero.is)

pub returns-then-zero-2 : goal.returns-then-zero-2
unfolding branching
returns-then-zero-2 c =
    ap Goes c.advance-then-zero-2.ensures ∙ branched _ _ c.if-zero-2.true (found _ c.condition_of-tested.ensures c.in-Some.is c.in-IsNonzero.is)

pub returns-else-zero-2 : goal.returns-else-zero-2
unfolding branching
returns-else-zero-2 c =
    ap Jumps c.jump-else-zero-2.ensures ∙ branched _ _ c.if-zero-2.false (found _ c.condition_of-tested.ensures c.in-Some.is c.in-IsNonzero.is)

pub returns-in-IsUnknown : goal.returns-in-IsUnknown
unfolding branching
returns-in-IsUnknown c =
    branched _ _ refl (found _ c.condition_of-tested.ensures c.in-Some.is c.in-IsUnknown.is)
