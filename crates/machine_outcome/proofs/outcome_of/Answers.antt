-- `machine_outcome::outcome_of` meets its contract: each arm's code computes, and the default arm's is one that combines. Assumes nothing.
use mathlib.Core.Path.{◌≡◌, ap, ◌∙◌}
use mir.Syntax.{w32}
use mir.ValLaws.{to_z-of_z}
use Rattle.numbers.proofs.SignedLaws.{read}
use Rattle.cells.specs.Cells.{exactly}
use Rattle.machine_outcome.specs.declared.Outcome.TheVariants.{Gives}
use Rattle.machine.specs.Machine.{index}
use Rattle.instructions.specs.HeldColumns.{operations, operation_of}
use Rattle.machine_outcome.specs.HeldOutcome.{outcome}
use Rattle.machine_outcome.proofs.CodeLaws.{past, combined}
use Rattle.machine_outcome.proofs.outcome_of.Goals.{After-index_of-index, Start}
use Rattle.machine_outcome.proofs.outcome_of.Goals as goal

-- the operand as the code reads it
same : (c : Start) → read w32 c.args.operand ≡ c.args.operand
same c = to_z-of_z w32 c.args.operand c.ranges.operand

found : (c : After-index_of-index) → c.index_of-index.result ≡ index c.args.operand
found c = c.index_of-index.ensures.0 ∙ ap index (same c.before)

pub returns-in-0 : goal.returns-in-0
unfolding operations operation_of outcome
returns-in-0 c = rw c.in-0.is

pub returns-in-1 : goal.returns-in-1
unfolding operations operation_of outcome
returns-in-1 c = rw (c.in-1.is, ← found (goal.at.returns-in-1 c).After-index_of-index) c.if_there.ensures

pub returns-in-2 : goal.returns-in-2
unfolding operations operation_of outcome
returns-in-2 c = rw (c.in-2.is, ← found (goal.at.returns-in-2 c).After-index_of-index) c.if_there-in-2.ensures

pub returns-in-3 : goal.returns-in-3
unfolding operations operation_of outcome
returns-in-3 c = rw (c.in-3.is, ← found (goal.at.returns-in-3 c).After-index_of-index) c.if_there-in-3.ensures

pub returns-in-4 : goal.returns-in-4
unfolding operations operation_of outcome
returns-in-4 c = rw c.in-4.is (ap Gives (c.exactly.ensures ∙ ap exactly (same (goal.at.returns-in-4 c).Start)))

pub returns-in-5 : goal.returns-in-5
unfolding operations operation_of outcome
returns-in-5 c = rw c.in-5.is

pub returns-in-6 : goal.returns-in-6
unfolding operations operation_of outcome
returns-in-6 c = rw c.in-6.is

pub returns-in-7 : goal.returns-in-7
unfolding operations operation_of outcome
returns-in-7 c = rw c.in-7.is

pub returns-in-8 : goal.returns-in-8
unfolding operations operation_of outcome
returns-in-8 c = rw c.in-8.is

pub returns-in-9 : goal.returns-in-9
unfolding operations operation_of outcome
returns-in-9 c = rw c.in-9.is c.if_there-in-9.ensures

pub returns-in-10 : goal.returns-in-10
unfolding operations operation_of outcome
returns-in-10 c = rw c.in-10.is

pub returns-in-11 : goal.returns-in-11
unfolding operations operation_of outcome
returns-in-11 c = rw c.in-11.is c.outcome_branching.ensures

pub returns-in-12 : goal.returns-in-12
unfolding operations operation_of outcome
returns-in-12 c = rw c.in-12.is c.outcome_branching-in-12.ensures

pub returns-in-13 : goal.returns-in-13
unfolding operations operation_of outcome
returns-in-13 c = rw (c.in-13.is, ← found (goal.at.returns-in-13 c).After-index_of-index) c.if_there-in-13.ensures

pub returns-in-14 : goal.returns-in-14
unfolding operations operation_of outcome
returns-in-14 c = rw c.in-14.is

pub returns-in_default : goal.returns-in_default
unfolding outcome
returns-in_default c = rw (combined _ (past 15 _ c.in_default.in_default-own.rest) c.requires).1 c.if_there-in_default.ensures
