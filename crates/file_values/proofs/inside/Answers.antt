-- `file_values::inside` meets its contract. Assumes nothing.
use mathlib.Core.Path.{◌≡◌, sym, ap, ◌∙◌}
use mathlib.Core.Bool.{Bool, cond}
use lib.IntN.{ℤ, pos}
use mir.Syntax.{w64}
use mir.Val.{SFits, of_z, to_z}
use mir.ValLaws.{to_z-of_z}
use Rattle.numbers.specs.declared.Range.{Range}
use Rattle.numbers.specs.Numbers.{within}
use Rattle.file_format.specs.Routine.{inside}
use borrow.Author.Rules.{rules}
use Rattle.file_values.proofs.inside.Goals as goal

-- the test of what is read back
seen : (r : Range) (z : ℤ) → SFits w64 z → {b : Bool} → b ≡ within r (to_z w64 (of_z w64 z)) → within r z ≡ b
seen r z h e = sym (e ∙ ap (within r) (to_z-of_z w64 z h))

pub returns-then-within : goal.returns-then-within
unfolding inside
returns-then-within c =
    to_z-of_z w64 _ (search rules) ∙ sym (ap (λ b. cond b c.args.z (pos 0)) (seen c.args.range c.args.z c.ranges.z c.within.ensures ∙ c.if-within.true))

pub returns-else-within : goal.returns-else-within
unfolding inside
returns-else-within c =
    sym (ap (λ b. cond b c.args.z (pos 0)) (seen c.args.range c.args.z c.ranges.z c.within.ensures ∙ c.if-within.false))
