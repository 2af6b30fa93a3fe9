-- `file_values::is_read_above` meets its contract. Assumes nothing.
use mathlib.Core.Path.{ap₂, ◌∙◌}
use lib.Signed.{lt_z}
use mir.Syntax.{w64}
use mir.ValLaws.{to_z-of_z}
use Rattle.text_decimals.proofs.ClampLaws.{lt-clamp}
use Rattle.file_format.specs.Rows.{value}
use borrow.Author.Rules.{rules}
use Rattle.file_values.proofs.is_read_above.Goals as goal

pub returns : goal.returns
returns c = λ w e.
    ap₂ lt_z (to_z-of_z w64 c.args.low c.ranges.low) (to_z-of_z w64 _ (search rules) ∙ c.value_read.ensures w e)
    ∙ lt-clamp c.args.low (value w) c.requires
