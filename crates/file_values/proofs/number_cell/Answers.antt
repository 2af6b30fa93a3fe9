-- `file_values::number_cell` meets its contract. Assumes nothing.
use mathlib.Core.Path.{◌≡◌, sym, ap, ap₂, subst, ◌∙◌}
use mir.Syntax.{w32, w64}
use mir.Val.{SFits, of_z, to_z}
use mir.ValLaws.{to_z-of_z}
use Rattle.numbers.specs.Numbers.{numbers}
use Rattle.cells.specs.Cells.{exactly}
use Rattle.file_format.specs.Routine.{inside}
use Rattle.file_values.proofs.ValueLaws.{inside-numbers-fits}
use borrow.Author.Rules.{rules}
use Rattle.file_values.proofs.number_cell.Goals.{After-inside-n}
use Rattle.file_values.proofs.number_cell.Goals as goal

held : (c : After-inside-n) → to_z w64 (of_z w64 c.inside-n.result) ≡ inside numbers c.args.z
held c = to_z-of_z w64 _ (search rules) ∙ c.inside-n.ensures ∙ ap₂ inside c.number_range.ensures (to_z-of_z w64 c.args.z c.ranges.z)

pub overflow_cast-n : goal.overflow_cast-n
overflow_cast-n c = subst (SFits w32) (sym (held c)) (inside-numbers-fits c.args.z)

pub returns : goal.returns
returns c =
    c.exactly.ensures ∙ ap exactly (to_z-of_z w32 _ (subst (SFits w32) (sym (held (goal.at.returns c).After-inside-n)) (inside-numbers-fits c.args.z)) ∙ held (goal.at.returns c).After-inside-n)
