-- `test_interrupts::numbers_of` meets its contract. Assumes nothing.
use mathlib.Core.Path.{◌≡◌}
use mathlib.Core.Bool.{cond}
use mathlib.Core.Logic.{⊎_elim}
use borrow.Author.Rules.{rules}
use Rattle.test_interrupts.proofs.InterruptLaws.{numbered}
use Rattle.test_interrupts.proofs.numbers_of.Statement.{statement}
use Rattle.test_interrupts.proofs.numbers_of.Tie as tie

-- the first number
stopped-is : (c : tie.Joined-r) → c.if-r.stopped ≡ cond c.args.r.stopped 1 0
stopped-is c = ⊎_elim (λ x. rw x.if-r.true x.stopped-is) (λ x. rw x.if-r.false x.stopped-is) c.if-r.branch-raw

told-of-requires : tie.Need-told_of-told-requires
told-of-requires c κs = search rules

returns : tie.Need-returns
returns c = numbered _ _ _ _ (stopped-is c.before) c.told_of-told.ensures

pub numbers_of_spec : {M : Type 1} → statement M
numbers_of_spec = tie.close (tie.spec told-of-requires returns)
