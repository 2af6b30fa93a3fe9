-- `split_cuts::number_of` meets its contract. Assumes nothing.
use mathlib.Core.Path.{ap₂, ◌∙◌}
use Rattle.file_format.specs.Rows.{value}
use Rattle.file_format.specs.Routine.{inside}
use Rattle.file_parts.proofs.WordLaws.{numbers_fit}
use mir.Syntax.{w32}
use mir.ValLaws.{to_z-of_z}
use borrow.Author.Rules.{rules}
use Rattle.split_cuts.proofs.number_of.Statement.{statement}
use Rattle.split_cuts.proofs.number_of.Tie as tie

number-of-requires : tie.Need-number_of-requires
number-of-requires c κs = numbers_fit _ c.number_range.ensures

returns : tie.Need-returns
returns c =
    to_z-of_z w32 c.number_of.result (search rules) ∙ c.number_of.ensures ∙ ap₂ (λ r w. inside r (value w)) c.number_range.ensures c.word_at.ensures

pub number_of_spec : {M : Type 1} → statement M
number_of_spec = tie.close (tie.spec (λ c κs. search rules) (λ c κs. search rules) number-of-requires returns)
