-- `text_decimals::positive` meets its contract.
use mathlib.Core.Path.{sym, ap, ◌∙◌}
use Rattle.text_decimals.specs.HeldMagnitude.{clamped, to_numeral}
use Rattle.text_decimals.proofs.NumeralLaws.{positive-read}
use Rattle.text_decimals.proofs.positive.Goals as goal

pub returns-in_err-v : goal.returns-in_err-v
unfolding clamped to_numeral
returns-in_err-v c = c.from_residual.ensures ∙ sym (ap (λ x. clamped (to_numeral x)) c.in_err-v.was)

pub returns : goal.returns
returns c = sym (ap (λ x. clamped (to_numeral x)) c.in_ok-v.was ∙ positive-read _ _ c.min-n.ensures)
