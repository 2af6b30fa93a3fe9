-- `text_decimals::read_numeral` meets its contract. Assumes nothing.
use mathlib.Core.Path.{sym, ap, ◌∙◌}
use Rattle.text_decimals.specs.Decimal.{negative}
use Rattle.text_decimals.specs.HeldMagnitude.{clamped, to_numeral}
use Rattle.text_decimals.proofs.NumeralLaws.{numeral-none, numeral-positive, numeral-negative}
use Rattle.text_decimals.proofs.read_numeral.Goals as goal

pub returns-then-w-eq0 : goal.returns-then-w-eq0
returns-then-w-eq0 c = sym (numeral-none _ c.if-w-eq0.true)

pub returns-then-w-ne45 : goal.returns-then-w-ne45
returns-then-w-ne45 c =
    c.positive.ensures
    ∙ ap (λ m. clamped (to_numeral m)) c.natural.ensures
    ∙ numeral-positive _ c.if-w-eq0.false c.if-w-ne45.true

pub returns : goal.returns
returns c =
    c.negative.ensures
    ∙ ap (λ m. clamped (negative (to_numeral m))) c.natural-2.ensures
    ∙ numeral-negative _ c.if-w-eq0.false c.if-w-ne45.false
