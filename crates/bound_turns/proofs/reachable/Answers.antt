-- `bound_turns::reachable` meets its contract. Assumes nothing.
use mathlib.Core.Path.{sym, subst, ap, ◌∙◌}
use Rattle.machine_state.specs.HeldProgram.{of_fetched, Known}
use Rattle.bound_turns.proofs.ReachLaws.{outside, full, room, plain}
use Rattle.bound_turns.proofs.reachable.Goals as goal

pub returns-in_default : goal.returns-in_default
returns-in_default c = record { result_value = outside _ _ (ap of_fetched (sym c.in_default.is) ∙ c.fetch-fetched.ensures.result_value); known = tt }

pub returns-then-registers-eq0 : goal.returns-then-registers-eq0
returns-then-registers-eq0 c =
    record { result_value = full _ _ _ (ap of_fetched (sym c.in-Some.is) ∙ c.fetch-fetched.ensures.result_value) c.if-line.true c.if-registers-eq0.true; known = tt }

pub returns-else-registers-eq0 : goal.returns-else-registers-eq0
returns-else-registers-eq0 c =
    record { result_value = room _ _ _ (ap of_fetched (sym c.in-Some.is) ∙ c.fetch-fetched.ensures.result_value) c.if-line.true c.if-registers-eq0.false; known = subst Known c.in-Some.is c.fetch-fetched.ensures.known }

pub returns-else-line : goal.returns-else-line
returns-else-line c =
    record { result_value = plain _ _ _ (ap of_fetched (sym c.in-Some.is) ∙ c.fetch-fetched.ensures.result_value) c.if-line.false; known = subst Known c.in-Some.is c.fetch-fetched.ensures.known }
