-- `words::landing` meets its contract. Assumes nothing.
use Prim.Native.Nat.{◌+◌}
use mathlib.Core.Path.{ap₂, ap, ◌∙◌}
use lib.IntN.{pos, ◌+ℤ◌}
use native.Mathlib.Omega.{arith}
use native.Mathlib.Numerals.{add-one}
use mir.Syntax.{w32, w64}
use mir.ValLaws.{to_z-of_z, to_z_pos}
use borrow.Author.Rules.{rules}
use Rattle.words.proofs.landing.Statement.{statement}
use Rattle.words.proofs.landing.Tie as tie

returns : tie.Need-returns
returns c =
    let s = c in
    to_z-of_z w64 _ (search rules)
    ∙ c.sum.ensures
    ∙ ap₂ ◌+ℤ◌ (to_z_pos w32 (s.args.index + 1) (omega arith) ∙ ap pos (add-one s.args.index)) (to_z-of_z w32 s.args.argument s.ranges.argument)

pub landing_spec : {M : Type 1} → statement M
landing_spec = tie.close (tie.spec (λ c. search rules) (λ c. search rules) (λ c κs. search rules) returns)
