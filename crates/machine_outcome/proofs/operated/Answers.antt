-- `machine_outcome::operated` meets its contract: each arm's code computes, and the default arm's is one that combines. Assumes nothing.
use mathlib.Core.Path.{◌≡◌, ap, ◌∙◌}
use mir.Syntax.{w32}
use mir.ValLaws.{to_z-of_z}
use Rattle.numbers.proofs.SignedLaws.{read}
use Rattle.cells.specs.declared.Unary.TheVariants.{Offset, Negate, Complement}
use Rattle.cells.specs.Cells.{operate₁}
use Rattle.instructions.specs.HeldColumns.{operations, operation_of}
use Rattle.machine_outcome.specs.HeldOutcome.{operated}
use Rattle.machine_outcome.proofs.CodeLaws.{on-two-cells}
use Rattle.machine_outcome.proofs.operated.Goals.{Start}
use Rattle.machine_outcome.proofs.operated.Goals as goal

-- the operand as the code reads it
same : (c : Start) → read w32 c.args.operand ≡ c.args.operand
same c = to_z-of_z w32 c.args.operand c.ranges.operand

pub binary_of-requires : goal.binary_of-requires
binary_of-requires c =
    let rest = c.in_default.in_default-own.rest in
    (on-two-cells _ c.requires.1 rest.0.0.1 rest.0.1 rest.1, c.requires.0)

pub returns-in-5 : goal.returns-in-5
unfolding operations operation_of operated
returns-in-5 c = rw c.in-5.is (c.operate1.ensures ∙ ap (λ i. operate₁ Offset i c.args.accu) (same (goal.at.returns-in-5 c).Start))

pub returns-in-6 : goal.returns-in-6
unfolding operations operation_of operated
returns-in-6 c = rw c.in-6.is (c.operate1-in-6.ensures ∙ ap (λ i. operate₁ Negate i c.args.accu) (same (goal.at.returns-in-6 c).Start))

pub returns-in-7 : goal.returns-in-7
unfolding operations operation_of operated
returns-in-7 c = rw c.in-7.is (c.operate1-in-7.ensures ∙ ap (λ i. operate₁ Complement i c.args.accu) (same (goal.at.returns-in-7 c).Start))

pub returns-in_default : goal.returns-in_default
unfolding operated
returns-in_default c = rw (← c.binary_of.ensures) c.operate2.ensures
