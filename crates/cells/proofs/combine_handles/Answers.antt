-- `cells::combine_handles` meets its contract. Assumes nothing.
use mathlib.Core.Path.{refl}
use Rattle.cells.specs.Cells.{combine_handles}
use Rattle.cells.proofs.AnswerLaws.{combined}
use Rattle.cells.proofs.combine_handles.Goals as goal

pub returns-in-Add : goal.returns-in-Add
unfolding combine_handles
returns-in-Add c = combined _ _ _ c.in-Add.is refl

pub returns-in-Subtract : goal.returns-in-Subtract
unfolding combine_handles
returns-in-Subtract c = combined _ _ _ c.in-Subtract.is refl

pub returns-in-Compare : goal.returns-in-Compare
unfolding combine_handles
returns-in-Compare c = combined _ _ _ c.in-Compare.is c.compare_handles.ensures
