-- `cells::compare_handles` meets its contract. Assumes nothing.
use mathlib.Core.Path.{refl, ap}
use Rattle.cells.specs.Try.{done}
use Rattle.cells.specs.Cells.{compare_handles}
use Rattle.cells.proofs.AnswerLaws.{compared}
use Rattle.cells.proofs.compare_handles.Goals as goal

pub returns-in-Equal : goal.returns-in-Equal
unfolding compare_handles
returns-in-Equal c = compared _ _ _ c.in-Equal.is (ap done c.truth.ensures)

pub returns-in-Unequal : goal.returns-in-Unequal
unfolding compare_handles
returns-in-Unequal c = compared _ _ _ c.in-Unequal.is (ap done c.truth-in-Unequal.ensures)

pub returns-in-Less : goal.returns-in-Less
unfolding compare_handles
returns-in-Less c = compared _ _ _ c.in-Less.is refl

pub returns-in-AtMost : goal.returns-in-AtMost
unfolding compare_handles
returns-in-AtMost c = compared _ _ _ c.in-AtMost.is refl

pub returns-in-Greater : goal.returns-in-Greater
unfolding compare_handles
returns-in-Greater c = compared _ _ _ c.in-Greater.is refl

pub returns-in-AtLeast : goal.returns-in-AtLeast
unfolding compare_handles
returns-in-AtLeast c = compared _ _ _ c.in-AtLeast.is refl
