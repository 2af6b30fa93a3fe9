-- A turn is one round more, and there are i of them.
use Rattle.std.proofs.Common.{◌≡◌, refl, sym, ap, ◌∙◌, arith}
use Rattle.generate_file.specs.Draws.{next, after}
use Rattle.generate_entry.proofs.RowingLaws.{after_one}
use Rattle.generate_entry.proofs.after.Goals as goal

pub loop-init : goal.loop-init
unfolding after
loop-init c = refl

pub loop-preserved : goal.loop-preserved
loop-preserved c = c.next-s.ensures ∙ ap next c.loop.invariant ∙ sym (after_one c.loop.counter c.args.seed)

pub returns : goal.returns
returns c = let e : c.loop.counter ≡ c.args.i = omega arith in c.loop.invariant ∙ ap (λ k. after k c.args.seed) e
