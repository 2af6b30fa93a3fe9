-- `merge_sweep::ended` meets its contract. Assumes nothing.
use borrow.Author.Rules.{rules}
use Rattle.merge_sweep.proofs.ended.Statement.{statement}
use Rattle.merge_sweep.proofs.ended.Tie as tie

pub ended_spec : {M : Type 1} → statement M
ended_spec = tie.close (tie.spec (λ c κs. search rules) (λ c κs. search rules) (λ c. search rules))
