-- `machine_outcome::drops_of` meets its contract. Assumes nothing.
use mathlib.Core.Path.{sym}
use mathlib.Core.Logic.{⊎_elim, inl, inr}
use native.Mathlib.Omega.{arith}
use Rattle.instructions.specs.HeldColumns.{operations, operation_of}
use Rattle.machine_outcome.specs.HeldOutcome.{drops}
use Rattle.machine_outcome.proofs.CodeLaws.{combined, drops-none}
use Rattle.machine_outcome.proofs.drops_of.Goals as goal

pub returns-in-2 : goal.returns-in-2
unfolding operations operation_of drops
returns-in-2 c = ⊎_elim (λ e. rw e) (λ e. rw e) c.in-2.is

pub returns-in-15-to-22 : goal.returns-in-15-to-22
unfolding drops
returns-in-15-to-22 c =
    let code = c.args.code in
    rw (combined code c.in-15-to-22.if-code-lt15-own.false (omega arith)).1

pub returns-in_default : goal.returns-in_default
returns-in_default c =
    let missed = c.in_default.in_default-own.rest.1 in
    sym (drops-none _ _ (λ e. missed (inl e)) (λ e. missed (inr e)) c.in_default.if-code-lt15-own.true)
