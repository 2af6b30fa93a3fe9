-- `text_decimals::natural` meets its contract. Assumes nothing.
use mathlib.Core.Path.{sym, ap, ◌∙◌}
use Rattle.text_decimals.specs.HeldMagnitude.{held}
use Rattle.text_decimals.proofs.NumeralLaws.{natural-none, natural-digits, natural-zero, natural-leading-zero}
use Rattle.text_decimals.proofs.natural.Goals as goal

pub returns-then-s-eq0 : goal.returns-then-s-eq0
returns-then-s-eq0 c = sym (natural-none _ c.if-s-eq0.true)

pub returns-then-s-ne48 : goal.returns-then-s-ne48
returns-then-s-ne48 c = c.digits.ensures ∙ sym (ap held (natural-digits _ c.if-s-eq0.false c.if-s-ne48.true))

pub returns-then-s-eq1 : goal.returns-then-s-eq1
returns-then-s-eq1 c = sym (natural-zero _ c.if-s-eq1.true c.if-s-ne48.false)

pub returns-else-s-eq1 : goal.returns-else-s-eq1
returns-else-s-eq1 c = sym (natural-leading-zero _ c.if-s-eq0.false c.if-s-eq1.false c.if-s-ne48.false)
