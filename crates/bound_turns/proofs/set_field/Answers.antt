-- `bound_turns::set_field` meets its contract. Assumes nothing.
use mathlib.Core.Path.{sym, ap}
use Rattle.bound_turns.specs.HeldTurn.{setting}
use Rattle.bound_turns.proofs.set_field.Goals as goal

pub returns-in_default : goal.returns-in_default
unfolding setting
returns-in_default c = ap (λ f. setting f) (sym c.in_default.is)

pub returns : goal.returns
unfolding setting
returns c = ap (λ f. setting f) (sym c.in-Some.is)
