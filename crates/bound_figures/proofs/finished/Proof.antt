-- `bound_figures::finished` meets its contract. Assumes nothing.
use mathlib.Core.Path.{refl}
use Rattle.bound_figures.specs.HeldFigures.{finished_of}
use Rattle.bound_figures.proofs.finished.Statement.{statement}
use Rattle.bound_figures.proofs.finished.Tie as tie

returns : tie.Need-returns
unfolding finished_of
returns c = refl

pub finished_spec : {M : Type 1} → statement M
finished_spec = tie.close (tie.spec returns)
