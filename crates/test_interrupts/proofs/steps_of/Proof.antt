-- `test_interrupts::steps_of` meets its contract. Assumes nothing.
use native.Mathlib.Omega.{arith}
use Rattle.test_interrupts.proofs.InterruptLaws.{steps_all, steps-most}
use Rattle.test_interrupts.proofs.steps_of.Statement.{statement}
use Rattle.test_interrupts.proofs.steps_of.Tie as tie

returns : tie.Need-returns-then-n-lt1000000
returns c = (steps_all _ c.if-n-lt1000000.true, omega arith)

returns-2 : tie.Need-returns
returns-2 c = (steps-most _ c.if-n-lt1000000.false, omega arith)

pub steps_of_spec : {M : Type 1} → statement M
steps_of_spec = tie.close (tie.spec returns returns-2)
