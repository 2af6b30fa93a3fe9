-- `test_interrupts::interrupt` meets its contract. Assumes nothing.
use native.Mathlib.Omega.{arith}
use borrow.Author.Rules.{rules}
use Rattle.test_interrupts.proofs.InterruptLaws.{numbers-are}
use Rattle.test_interrupts.proofs.interrupt.Statement.{statement}
use Rattle.test_interrupts.proofs.interrupt.Tie as tie

afresh-requires : tie.Need-afresh-found-requires
afresh-requires c κs =
    let s = c in
    (s.requires.0, record { formed = c.after-r.ensures.1.1; budget_fits = s.requires.1.1; openings_fit = omega arith })

returns : tie.Need-returns
returns c = numbers-are _ _ _ _ _ _ _ c.numbers_of.ensures c.afresh-found.ensures _ c.after-r.ensures.0

pub interrupt_spec : {M : Type 1} → statement M
interrupt_spec = tie.close (tie.spec (λ c κs. search rules) afresh-requires (λ c κs. search rules) returns)
