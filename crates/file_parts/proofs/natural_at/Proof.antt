-- `file_parts::natural_at` meets its contract. Assumes nothing.
use mathlib.Core.Path.{ap, ◌∙◌}
use Rattle.file_format.specs.Routine.{natural_in}
use borrow.Author.Rules.{rules}
use Rattle.file_parts.proofs.natural_at.Statement.{statement}
use Rattle.file_parts.proofs.natural_at.Tie as tie

returns : tie.Need-returns
returns c = c.natural_of.ensures ∙ ap (natural_in c.args.range) c.listed_at.ensures

pub natural_at_spec : {M : Type 1} → statement M
natural_at_spec = tie.close (tie.spec (λ c κs. search rules) (λ c κs. search rules) returns)
