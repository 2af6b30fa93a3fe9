-- `explain_lines::line_under` meets its contract. Assumes nothing.
use mathlib.Core.Path.{◌∙◌}
use borrow.Author.Rules.{rules}
use Rattle.explain_lines.proofs.CursorLaws.{stands-under}
use Rattle.explain_lines.proofs.line_under.Statement.{statement}
use Rattle.explain_lines.proofs.line_under.Tie as tie

returns : tie.Need-returns
returns c = c.first_line.ensures ∙ stands-under c.requires

pub line_under_spec : {M : Type 1} → statement M
line_under_spec = tie.close (tie.spec (λ c. search rules) (λ c. search rules) (λ c. search rules) (λ c κs. search rules) returns)
