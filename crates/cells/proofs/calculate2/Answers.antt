-- `cells::calculate2` meets its contract. Assumes nothing.
use mathlib.Core.Path.{refl, sym, ◌∙◌}
use lib.IntN.{◌+ℤ◌, ◌-ℤ◌}
use mir.Syntax.{w32}
use Rattle.numbers.specs.Numbers.{holds, bit}
use Rattle.numbers.proofs.SignedLaws.{read-both, bit-keeps}
use Rattle.cells.specs.Cells.{calculate₂}
use Rattle.cells.proofs.AnswerLaws.{calculated}
use Rattle.cells.proofs.calculate2.Goals as goal

pub returns-in-Add : goal.returns-in-Add
unfolding calculate₂
returns-in-Add c =
    calculated (λ b. calculate₂ b c.args.m c.args.n) c.args.b c.in-Add.is c.wrapping_add.ensures
    (read-both ◌+ℤ◌ w32 _ _ c.ranges.m c.ranges.n)

pub returns-in-Subtract : goal.returns-in-Subtract
unfolding calculate₂
returns-in-Subtract c =
    calculated (λ b. calculate₂ b c.args.m c.args.n) c.args.b c.in-Subtract.is c.wrapping_sub.ensures
    (read-both ◌-ℤ◌ w32 _ _ c.ranges.m c.ranges.n)

pub returns-in-Compare : goal.returns-in-Compare
unfolding calculate₂
returns-in-Compare c =
    let known = c.in-Compare in
    calculated (λ b. calculate₂ b c.args.m c.args.n) c.args.b known.is
    (c.compare.ensures
    ∙ read-both (λ m n. bit (holds known.c m n)) w32 _ _ c.ranges.m c.ranges.n
    ∙ sym (bit-keeps (holds known.c c.args.m c.args.n)))
    refl
