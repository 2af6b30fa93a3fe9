-- `cells::negated` meets its contract. Assumes nothing.
use mathlib.Core.Path.{sym, ap}
use Rattle.cells.specs.Cells.{negated}
use Rattle.cells.proofs.negated.Goals as goal

pub returns-in-Equal : goal.returns-in-Equal
unfolding negated
returns-in-Equal c = ap negated (sym c.in-Equal.is)

pub returns-in-Unequal : goal.returns-in-Unequal
unfolding negated
returns-in-Unequal c = ap negated (sym c.in-Unequal.is)

pub returns-in-Less : goal.returns-in-Less
unfolding negated
returns-in-Less c = ap negated (sym c.in-Less.is)

pub returns-in-AtMost : goal.returns-in-AtMost
unfolding negated
returns-in-AtMost c = ap negated (sym c.in-AtMost.is)

pub returns-in-Greater : goal.returns-in-Greater
unfolding negated
returns-in-Greater c = ap negated (sym c.in-Greater.is)

pub returns-in-AtLeast : goal.returns-in-AtLeast
unfolding negated
returns-in-AtLeast c = ap negated (sym c.in-AtLeast.is)
