-- `bound_turns::store_entry` meets its contract. Assumes nothing.
use borrow.Author.Tests.{lt-ltb, le-ltb}
use Rattle.bound_turns.specs.HeldTurn.{storing}
use Rattle.bound_turns.proofs.store_entry.Goals as goal

pub returns-then-n-registers : goal.returns-then-n-registers
unfolding storing
returns-then-n-registers c = rw (lt-ltb _ _ c.if-n-registers.true)

pub returns : goal.returns
unfolding storing
returns c = rw (le-ltb _ _ c.if-n-registers.false)
