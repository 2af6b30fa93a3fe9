-- `bound_turns::turn_of` meets its contract: each arm's code computes, and the default arm's is one that combines. Assumes nothing.
use mathlib.Core.Path.{◌≡◌, ap, ◌∙◌}
use mathlib.Core.Bool.{true, false, cond}
use Prim.Native.Nat.{◌-◌}
use borrow.Author.Rules.{rules}
use lib.Dec.{ltb}
use mir.Syntax.{w32}
use mir.Val.{SFits}
use mir.ValLaws.{to_z-of_z}
use Rattle.numbers.proofs.SignedLaws.{read}
use Rattle.cells.specs.Cells.{exactly, operate₁, condition}
use Rattle.cells.specs.declared.Unary.TheVariants.{Offset, Negate, Complement}
use Rattle.machine.specs.Machine.{index}
use Rattle.instructions.specs.HeldColumns.{operations, operation_of}
use Rattle.machine_outcome.proofs.CodeLaws.{past, combined}
use Rattle.machine_state.specs.HeldProgram.{sizes_of}
use Rattle.machine_state.specs.HeldState.{slot}
use Rattle.machine_state.specs.HeldRegisters.{loaded, advanced, placed}
use Rattle.bound_turns.specs.declared.Turn.TheVariants.{Goes, Stuck}
use Rattle.bound_turns.specs.HeldTurn.{reading, storing, dropping, altering, branching, getting, setting, turn}
use Rattle.bound_turns.proofs.turn_of.Goals.{Start}
use Rattle.bound_turns.proofs.turn_of.Goals as goal

fitting : (c : Start) → SFits w32 c.args.line.operand
fitting c = search rules

-- the operand as the code reads it
same : (c : Start) → read w32 c.args.line.operand ≡ c.args.line.operand
same c = to_z-of_z w32 c.args.line.operand (fitting c)

pub returns-in-0 : goal.returns-in-0
unfolding operations operation_of turn
returns-in-0 c =
    rw c.in-0.is (ap Goes c.advance.ensures)

pub returns-in-1 : goal.returns-in-1
unfolding operations operation_of turn
returns-in-1 c =
    rw c.in-1.is (c.read_entry.ensures ∙ ap (λ n. reading n c.args.registers) (c.index_of.ensures.0 ∙ ap index (same (goal.at.returns-in-1 c).Start)))

pub returns-in-2 : goal.returns-in-2
unfolding operations operation_of turn
returns-in-2 c =
    rw c.in-2.is (c.drop_entries.ensures ∙ ap (λ n. dropping n c.args.registers.accu c.args.registers) (c.index_of-in-2.ensures.0 ∙ ap index (same (goal.at.returns-in-2 c).Start)))

pub returns-in-3 : goal.returns-in-3
unfolding operations operation_of turn
returns-in-3 c =
    rw c.in-3.is (c.store_entry.ensures ∙ ap (λ n. storing n c.args.registers) (c.index_of-in-3.ensures.0 ∙ ap index (same (goal.at.returns-in-3 c).Start)))

pub returns-in-4 : goal.returns-in-4
unfolding operations operation_of turn
returns-in-4 c =
    rw c.in-4.is
    (ap Goes (c.advance-in-4.ensures ∙ ap advanced (c.load.ensures ∙ ap (λ x. loaded x c.args.registers) (c.exactly.ensures ∙ ap exactly (same (goal.at.returns-in-4 c).Start)))))

pub returns-in-5 : goal.returns-in-5
unfolding operations operation_of turn
returns-in-5 c =
    rw c.in-5.is (c.alter.ensures ∙ ap (altering c.args.registers) (c.operate1.ensures ∙ ap (λ i. operate₁ Offset i c.args.registers.accu) (same (goal.at.returns-in-5 c).Start)))

pub returns-in-6 : goal.returns-in-6
unfolding operations operation_of turn
returns-in-6 c =
    rw c.in-6.is (c.alter-in-6.ensures ∙ ap (altering c.args.registers) (c.operate1-in-6.ensures ∙ ap (λ i. operate₁ Negate i c.args.registers.accu) (same (goal.at.returns-in-6 c).Start)))

pub returns-in-7 : goal.returns-in-7
unfolding operations operation_of turn
returns-in-7 c =
    rw c.in-7.is (c.alter-in-7.ensures ∙ ap (altering c.args.registers) (c.operate1-in-7.ensures ∙ ap (λ i. operate₁ Complement i c.args.registers.accu) (same (goal.at.returns-in-7 c).Start)))

pub returns-in-8 : goal.returns-in-8
unfolding operations operation_of turn
returns-in-8 c =
    rw c.in-8.is (c.get_field.ensures ∙ ap getting (c.slot_of.ensures ∙ ap (slot (sizes_of c.args.code.now) c.args.registers.accu) (c.index_of-in-8.ensures.0 ∙ ap index (same (goal.at.returns-in-8 c).Start))))

pub returns-in-9 : goal.returns-in-9
unfolding operations operation_of turn
returns-in-9 c =
    rw c.in-9.is
    (c.if_there.ensures
    ∙ ap (λ t. cond (ltb 0 (64 - c.args.registers.free)) t Stuck)
    (c.set_field.ensures ∙ ap setting (c.slot_of-field.ensures ∙ ap (slot (sizes_of c.args.code.now) c.args.registers.accu) (c.index_of-in-9.ensures.0 ∙ ap index (same (goal.at.returns-in-9 c).Start)))))

pub returns-in-10 : goal.returns-in-10
unfolding operations operation_of turn
returns-in-10 c =
    rw c.in-10.is (ap Goes (c.jump.ensures ∙ ap (λ n. placed n c.args.registers) (c.index_of-in-10.ensures.0 ∙ ap index (same (goal.at.returns-in-10 c).Start))))

pub returns-in-11 : goal.returns-in-11
unfolding operations operation_of turn
returns-in-11 c =
    rw c.in-11.is (c.branch_on.ensures ∙ ap (λ n. branching false n c.args.registers (condition c.args.registers.accu)) (c.index_of-in-11.ensures.0 ∙ ap index (same (goal.at.returns-in-11 c).Start)))

pub returns-in-12 : goal.returns-in-12
unfolding operations operation_of turn
returns-in-12 c =
    rw c.in-12.is (c.branch_on-in-12.ensures ∙ ap (λ n. branching true n c.args.registers (condition c.args.registers.accu)) (c.index_of-in-12.ensures.0 ∙ ap index (same (goal.at.returns-in-12 c).Start)))

pub returns-in-13 : goal.returns-in-13
unfolding operations operation_of turn
returns-in-13 c =
    rw c.in-13.is
    (c.drop_entries-in-13.ensures ∙ ap (λ n. dropping n c.unknown.result c.args.registers) (c.index_of-in-13.ensures.0 ∙ ap index (same (goal.at.returns-in-13 c).Start))
    ∙ ap (λ x. dropping (index c.args.line.operand) x c.args.registers) c.unknown.ensures)

pub returns-in-14 : goal.returns-in-14
unfolding operations operation_of turn
returns-in-14 c =
    rw c.in-14.is

pub returns-in_default : goal.returns-in_default
unfolding turn
returns-in_default c =
    rw (combined _ (past 15 _ c.in_default.in_default-own.rest) c.requires.code_bound.0).1 c.if_there-in_default.ensures
