-- `bound_turns::drop_entries` meets its contract. Assumes nothing.
use mathlib.Core.Path.{ap, ◌∙◌}
use borrow.Author.Tests.{le-leb, lt-leb}
use Rattle.machine_state.specs.HeldRegisters.{loaded, advanced}
use Rattle.bound_turns.specs.declared.Turn.TheVariants.{Goes}
use Rattle.bound_turns.specs.HeldTurn.{dropping}
use Rattle.bound_turns.proofs.drop_entries.Goals as goal

pub returns-then-n-registers : goal.returns-then-n-registers
unfolding dropping
returns-then-n-registers c = rw (le-leb _ _ c.if-n-registers.true) (ap Goes (c.advance.ensures ∙ ap advanced (c.load.ensures ∙ ap (loaded _) c.pop.ensures)))

pub returns : goal.returns
unfolding dropping
returns c = rw (lt-leb _ _ c.if-n-registers.false)
