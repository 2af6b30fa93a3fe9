-- `bound_turns::get_field` meets its contract. Assumes nothing.
use mathlib.Core.Path.{sym, ap}
use Rattle.bound_turns.specs.HeldTurn.{getting}
use Rattle.bound_turns.proofs.get_field.Goals as goal

pub returns-in_default : goal.returns-in_default
unfolding getting
returns-in_default c = ap (λ f. getting f) (sym c.in_default.is)

pub returns : goal.returns
unfolding getting
returns c = ap (λ f. getting f) (sym c.in-Some.is)
