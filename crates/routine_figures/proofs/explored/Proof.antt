-- `routine_figures::explored` meets its contract. Assumes nothing.
use borrow.Author.Rules.{rules}
use Rattle.routine_figures.proofs.FigureLaws.{explored-shows, explored-shareable}
use Rattle.routine_figures.proofs.explored.Statement.{statement}
use Rattle.routine_figures.proofs.explored.Tie as tie

returns : tie.Need-returns
returns c =
    let s = c in
    (explored-shows s.args.routine s.requires _ c.explore.ensures.0, explored-shareable s.args.routine s.requires _ c.explore.ensures.1.1.1)

pub explored_spec : {M : Type 1} → statement M
explored_spec = tie.close (tie.spec (λ c κs. search rules) returns)
