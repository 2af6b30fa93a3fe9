-- `machine_outcome::comparison_of` meets its contract: each arm's code computes. Assumes nothing.
use mathlib.Core.Path.{◌≡◌}
use native.Mathlib.Omega.{arith}
use Rattle.instructions.specs.HeldColumns.{operations, operation_of}
use Rattle.machine_outcome.proofs.comparison_of.Goals as goal

pub returns-in-17 : goal.returns-in-17
unfolding operations operation_of
returns-in-17 c = rw c.in-17.is

pub returns-in-18 : goal.returns-in-18
unfolding operations operation_of
returns-in-18 c = rw c.in-18.is

pub returns-in-19 : goal.returns-in-19
unfolding operations operation_of
returns-in-19 c = rw c.in-19.is

pub returns-in-20 : goal.returns-in-20
unfolding operations operation_of
returns-in-20 c = rw c.in-20.is

pub returns-in-21 : goal.returns-in-21
unfolding operations operation_of
returns-in-21 c = rw c.in-21.is

pub returns-in_default : goal.returns-in_default
unfolding operations operation_of
returns-in_default c =
    let e : c.args.code ≡ 22 = omega arith in
    rw e
