-- `file_values::value_read` meets its contract. Assumes nothing.
use mathlib.Core.Path.{refl}
use mir.Syntax.{w64}
use mir.ValLaws.{to_z-of_z}
use Rattle.text_decimals.specs.Decimal.{numeral}
use Rattle.file_format.specs.Rows.{value_of, value}
use Rattle.file_values.proofs.ValueLaws.{held-value}
use borrow.Author.Rules.{rules}
use Rattle.file_values.proofs.value_read.Goals as goal

pub returns-in-None : goal.returns-in-None
unfolding value value_of
returns-in-None c = λ w e. held-value (numeral w) e c.in-None.is refl

pub returns-in-Some : goal.returns-in-Some
unfolding value value_of
returns-in-Some c = λ w e. held-value (numeral w) e c.in-Some.is (to_z-of_z w64 c.in-Some.z (search rules))
