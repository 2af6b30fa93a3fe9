-- `instructions::range_at` meets its contract. Assumes nothing.
use mathlib.Core.Path.{◌∙◌}
use mir.Syntax.{w64}
use mir.ValLaws.{to_z-of_z}
use borrow.Author.Rules.{rules}
use Rattle.instructions.proofs.range_at.Statement.{statement}
use Rattle.instructions.proofs.range_at.Tie as tie

returns : tie.Need-returns
returns c =
    let low = to_z-of_z w64 _ record { sfits = c.low_at.type_inv } ∙ c.low_at.ensures in
    let high = to_z-of_z w64 _ record { sfits = c.high_at.type_inv } ∙ c.high_at.ensures in
    λ i. record { low = low i; high = high i }

pub range_at_spec : {M : Type 1} → statement M
range_at_spec = tie.close (tie.spec (λ c κs. search rules) (λ c κs. search rules) returns)
