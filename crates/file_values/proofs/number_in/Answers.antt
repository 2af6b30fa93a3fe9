-- `file_values::number_in` meets its contract. Assumes nothing.
use mathlib.Core.Path.{ap, ◌∙◌}
use mir.Syntax.{w64}
use mir.ValLaws.{to_z-of_z}
use Rattle.file_format.specs.Rows.{value}
use Rattle.file_format.specs.Routine.{inside}
use Rattle.file_values.proofs.ValueLaws.{inside-clamp}
use borrow.Author.Rules.{rules}
use Rattle.file_values.proofs.number_in.Goals as goal

pub returns : goal.returns
returns c =
    to_z-of_z w64 _ (search rules)
    ∙ c.inside.ensures
    ∙ ap (inside c.args.range) (to_z-of_z w64 _ (search rules) ∙ c.value_read.ensures _ c.read_numeral.ensures)
    ∙ inside-clamp c.args.range (value c.args.w.now) c.requires
