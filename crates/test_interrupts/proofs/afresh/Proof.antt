-- `test_interrupts::afresh` meets its contract. Assumes nothing.
use borrow.Author.Rules.{rules}
use Rattle.test_interrupts.proofs.InterruptLaws.{afresh-stopped, afresh-going}
use Rattle.test_interrupts.proofs.afresh.Statement.{statement}
use Rattle.test_interrupts.proofs.afresh.Tie as tie

returns : tie.Need-returns-then-stopped
returns c = rw (c.finished.ensures, c.nothing.ensures) (afresh-stopped _ _ _ c.if-stopped.true)

returns-2 : tie.Need-returns
returns-2 c = afresh-going _ _ _ _ _ _ c.if-stopped.false _ c.explore.ensures.0

pub afresh_spec : {M : Type 1} → statement M
afresh_spec = tie.close (tie.spec (λ c κs. search rules) (λ c κs. search rules) returns (λ c κs. search rules) returns-2)
