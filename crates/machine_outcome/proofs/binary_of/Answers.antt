-- `machine_outcome::binary_of` meets its contract: each arm's code computes. Assumes nothing.
use Rattle.instructions.specs.HeldColumns.{operations, operation_of}
use Rattle.machine_outcome.proofs.binary_of.Goals as goal

pub returns-in-15 : goal.returns-in-15
unfolding operations operation_of
returns-in-15 c = rw c.in-15.is

pub returns-in-16 : goal.returns-in-16
unfolding operations operation_of
returns-in-16 c = rw c.in-16.is
