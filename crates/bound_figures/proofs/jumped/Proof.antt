-- `bound_figures::jumped` meets its contract. Assumes nothing.
use Rattle.bound_figures.specs.HeldFigures.{jumped_of}
use borrow.Author.Rules.{rules}
use Rattle.bound_figures.proofs.jumped.Statement.{statement}
use Rattle.bound_figures.proofs.jumped.Tie as tie

returns : tie.Need-returns
unfolding jumped_of
returns c = search rules

pub jumped_spec : {M : Type 1} → statement M
jumped_spec = tie.close (tie.spec (λ c. search rules) returns)
