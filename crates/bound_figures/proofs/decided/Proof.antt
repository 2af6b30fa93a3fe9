-- `bound_figures::decided` meets its contract. Assumes nothing.
use borrow.Author.Tests.{le-leb, lt-leb}
use Rattle.bound_figures.specs.HeldFigures.{decided_of}
use borrow.Author.Rules.{rules}
use Rattle.bound_figures.proofs.decided.Statement.{statement}
use Rattle.bound_figures.proofs.decided.Tie as tie

returns : tie.Need-returns-then-k-l
unfolding decided_of
returns c = simp (le-leb _ _ c.if-k-l.true)

returns-2 : tie.Need-returns-else-k-l
unfolding decided_of
returns-2 c = simp (lt-leb _ _ c.if-k-l.false)

pub decided_spec : {M : Type 1} → statement M
decided_spec = tie.close (tie.spec (λ c. search rules) (λ c. search rules) (λ c. search rules) returns returns-2)
