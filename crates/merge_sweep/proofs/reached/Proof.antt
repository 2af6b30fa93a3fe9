-- `merge_sweep::reached` meets its contract. Assumes nothing.
use borrow.Author.Rules.{rules}
use Rattle.merge_sweep.proofs.reached.Statement.{statement}
use Rattle.merge_sweep.proofs.reached.Tie as tie

pub reached_spec : {M : Type 1} → statement M
reached_spec = tie.close (tie.spec (λ c κs. search rules) (λ c. search rules) (λ c. search rules))
