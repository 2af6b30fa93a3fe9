-- `file_layout::body_of` meets its contract. Assumes nothing.
use Rattle.file_format.specs.Layout.{body}
use borrow.Author.Rules.{rules}
use Rattle.file_layout.proofs.body_of.Statement.{statement}
use Rattle.file_layout.proofs.body_of.Tie as tie

returns : tie.Need-returns
unfolding body
returns c = c.after_lines.ensures.0

pub body_of_spec : {M : Type 1} → statement M
body_of_spec = tie.close (tie.spec (λ c κs. search rules) returns)
