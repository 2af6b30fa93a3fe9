-- `file_layout::at_range` meets its contract. Assumes nothing.
use mathlib.Core.Path.{◌∙◌}
use Rattle.file_format.proofs.LayoutLaws.{at_first, at-later}
use borrow.Author.Rules.{rules}
use Rattle.file_layout.proofs.at_range.Statement.{statement}
use Rattle.file_layout.proofs.at_range.Tie as tie

returns : tie.Need-returns-then-k-eq0
returns c = c.first_addresses.ensures ∙ at_first c.args.k c.if-k-eq0.true

returns-2 : tie.Need-returns
returns-2 c = c.addresses.ensures ∙ at-later c.args.k c.if-k-eq0.false

pub at_range_spec : {M : Type 1} → statement M
at_range_spec = tie.close (tie.spec (λ c κs. search rules) returns (λ c κs. search rules) returns-2)
