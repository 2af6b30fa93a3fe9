-- `machine_step::jump_price` meets its contract. Assumes nothing.
use borrow.Author.Rules.{rules}
use Rattle.machine.specs.Machine.{with_extra}
use Rattle.machine_step.proofs.jump_price.Statement.{statement}
use Rattle.machine_step.proofs.jump_price.Tie as tie

returns : tie.Need-returns
unfolding with_extra
returns c = search rules

pub jump_price_spec : {M : Type 1} → statement M
jump_price_spec = tie.close (tie.spec (λ c. search rules) (λ c. search rules) (λ c. search rules) (λ c. search rules) returns)
