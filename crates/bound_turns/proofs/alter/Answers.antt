-- `bound_turns::alter` meets its contract. Assumes nothing.
use mathlib.Core.Path.{sym, ap, ◌∙◌}
use Rattle.machine_state.specs.HeldRegisters.{advanced}
use Rattle.bound_turns.specs.declared.Turn.TheVariants.{Goes}
use Rattle.bound_turns.specs.HeldTurn.{altering}
use Rattle.bound_turns.proofs.alter.Goals as goal

pub returns-in_default : goal.returns-in_default
unfolding altering
returns-in_default c = ap (λ g. altering c.args.registers g) (sym c.in_default.is)

pub returns : goal.returns
unfolding altering
returns c =
    ap Goes (c.advance.ensures ∙ ap advanced c.load.ensures) ∙ ap (λ g. altering c.args.registers g) (sym c.in-Some.is)
