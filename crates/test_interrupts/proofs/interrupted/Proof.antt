-- `test_interrupts::interrupted` meets its contract. Assumes nothing.
use native.Mathlib.Omega.{arith}
use mathlib.Core.Path.{sym}
use Rattle.file_reader.proofs.ReaderLaws.{taken}
use Rattle.test_interrupts.proofs.InterruptLaws.{interrupted-is}
use borrow.Author.Rules.{rules}
use Rattle.test_interrupts.proofs.interrupted.Statement.{statement}
use Rattle.test_interrupts.proofs.interrupted.Tie as tie

slice-aggregate-interrupt : tie.Need-slice_bounds-interrupt-end
slice-aggregate-interrupt c = let s = c in sym (taken _ s.args.x.answers.values (omega (arith, s.requires.places, s.requires.answered)))

interrupt-requires : tie.Need-interrupt-requires
interrupt-requires c κs =
    let s = c in
    (s.requires.program, (record { formed = s.requires.formed; steps = c.steps_of-steps.ensures.1 }, s.requires.budget))

returns : tie.Need-returns
returns c =
    let s = c in
    interrupted-is s.args.x _ _ c.steps_of-steps.ensures.0 _ c.interrupt.ensures

pub interrupted_spec : {M : Type 1} → statement M
interrupted_spec = tie.close (tie.spec (λ c κs. search rules) (λ c. search rules) slice-aggregate-interrupt interrupt-requires returns)
