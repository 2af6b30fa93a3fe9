-- `bound_figures::refused` meets its contract. Assumes nothing.
use mathlib.Core.Path.{refl}
use Rattle.bound_figures.specs.HeldFigures.{refused_as}
use Rattle.bound_figures.proofs.refused.Statement.{statement}
use Rattle.bound_figures.proofs.refused.Tie as tie

returns : tie.Need-returns
unfolding refused_as
returns c = refl

pub refused_spec : {M : Type 1} → statement M
refused_spec = tie.close (tie.spec returns)
