-- `file_values::is_read_within` meets its contract. Assumes nothing.
use mathlib.Core.Path.{ap, ◌∙◌}
use mir.Syntax.{w64}
use mir.ValLaws.{to_z-of_z}
use Rattle.numbers.specs.Numbers.{within}
use Rattle.file_format.specs.Rows.{value}
use Rattle.file_values.proofs.ValueLaws.{within-clamp}
use borrow.Author.Rules.{rules}
use Rattle.file_values.proofs.is_read_within.Goals as goal

pub returns : goal.returns
returns c = λ w e.
    c.within.ensures
    ∙ ap (within c.args.range) (to_z-of_z w64 _ (search rules) ∙ c.value_read.ensures w e)
    ∙ within-clamp c.args.range (value w) c.requires
