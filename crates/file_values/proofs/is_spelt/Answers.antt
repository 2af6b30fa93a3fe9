-- `file_values::is_spelt` meets its contract. Assumes nothing.
use mathlib.Core.Path.{refl}
use Rattle.text_decimals.specs.Decimal.{numeral}
use Rattle.text_decimals.specs.HeldMagnitude.{clamped}
use Rattle.file_format.specs.Rows.{is_numeral}
use Rattle.file_values.proofs.ValueLaws.{numeral-clamped, tested}
use Rattle.file_values.proofs.is_spelt.Goals as goal

pub returns-in-None : goal.returns-in-None
unfolding is_numeral
returns-in-None c = λ w e. tested is_numeral clamped numeral-clamped (numeral w) e c.in-None.is refl

pub returns-in-Some : goal.returns-in-Some
unfolding is_numeral
returns-in-Some c = λ w e. tested is_numeral clamped numeral-clamped (numeral w) e c.in-Some.is refl
