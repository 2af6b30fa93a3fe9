-- `text_decimals::negative` meets its contract.
use mathlib.Core.Path.{sym, ap, ◌∙◌}
use native.Mathlib.Omega.{arith}
use Rattle.text_decimals.specs.Decimal.{negative}
use Rattle.text_decimals.specs.HeldMagnitude.{clamped, to_numeral}
use Rattle.text_decimals.proofs.NumeralLaws.{minus-fits, negative-zero, negative-read}
use Rattle.text_decimals.proofs.negative.Goals as goal

pub returns-in_err-v : goal.returns-in_err-v
unfolding clamped to_numeral
returns-in_err-v c = c.from_residual.ensures ∙ sym (ap (λ x. clamped (negative (to_numeral x))) c.in_err-v.was)

pub returns-then-v-eq0 : goal.returns-then-v-eq0
returns-then-v-eq0 c = sym (ap (λ x. clamped (negative (to_numeral x))) c.in_ok-v.was ∙ negative-zero _ c.if-v-eq0.true)

pub overflow_sub-result : goal.overflow_sub-result
overflow_sub-result c = minus-fits c.min-n.result (omega arith)

pub returns : goal.returns
returns c = sym (ap (λ x. clamped (negative (to_numeral x))) c.in_ok-v.was ∙ negative-read _ _ c.if-v-eq0.false c.min-n.ensures)
