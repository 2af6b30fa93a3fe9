-- `bound_figures::more` meets its contract. Assumes nothing.
use Rattle.bound_figures.specs.HeldFigures.{more_of}
use borrow.Author.Rules.{rules}
use Rattle.bound_figures.proofs.more.Statement.{statement}
use Rattle.bound_figures.proofs.more.Tie as tie

returns : tie.Need-returns
unfolding more_of
returns c = simp c.max-depth.ensures

pub more_spec : {M : Type 1} → statement M
more_spec = tie.close (tie.spec (λ c. search rules) (λ c. search rules) (λ c κs. search rules) (λ c. search rules) returns)
