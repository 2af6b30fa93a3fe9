-- `bound_turns::read_entry` meets its contract. Assumes nothing.
use borrow.Author.Tests.{lt-ltb, le-ltb}
use Rattle.bound_turns.specs.HeldTurn.{reading}
use Rattle.bound_turns.proofs.read_entry.Goals as goal

pub returns-then-n-registers : goal.returns-then-n-registers
unfolding reading
returns-then-n-registers c = rw (lt-ltb _ _ c.if-n-registers.true)

pub returns : goal.returns
unfolding reading
returns c = rw (le-ltb _ _ c.if-n-registers.false)
