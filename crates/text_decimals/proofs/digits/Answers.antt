-- `text_decimals::digits` meets its contract.
use Rattle.std.proofs.Common.{suc, ◌+◌, ◌-◌, ◌*◌, ◌≡◌, get_or, min, sym, ap, ◌∙◌, add-one, arith}
use Rattle.text_decimals.specs.HeldMagnitude.{most, held}
use Rattle.text_decimals.proofs.NumeralLaws.{digits-below, digits_above, digits-next, digits-end, held-digits}
use Rattle.text_decimals.proofs.digits.Goals as goal

pub returns-then-d-lt48 : goal.returns-then-d-lt48
returns-then-d-lt48 c = sym (c.loop-d.invariant.same ∙ digits-below _ _ _ c.loop-d-test.true c.if-d-lt48.true)

pub returns-then-d-gt57 : goal.returns-then-d-gt57
returns-then-d-gt57 c = sym (c.loop-d.invariant.same ∙ digits_above _ _ _ c.loop-d-test.true c.if-d-lt48.false c.if-d-gt57.true)

pub loop-d-preserved : goal.loop-d-preserved
loop-d-preserved c =
    let l = c.loop-d in
    let m : c.append_digit-v.result ≡ min (suc most) (l.v * 10 + (get_or c.args.s.now l.d-index 0 - 48)) = omega arith in
    record {
      small = omega arith;
      same = rw add-one (l.invariant.same ∙ ap held (digits-next _ _ _ c.loop-d-test.true c.if-d-lt48.false c.if-d-gt57.false) ∙ held-digits _ _ _ (omega arith));
    }

pub returns : goal.returns
returns c = sym (c.loop-d.invariant.same ∙ digits-end _ _ _ c.loop-d-test.false c.loop-d.invariant.small)
