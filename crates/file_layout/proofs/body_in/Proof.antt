-- `file_layout::body_in` meets its contract. Assumes nothing.
use mathlib.Core.Path.{ap, ◌∙◌}
use native.Mathlib.Omega.{arith}
use Rattle.text.specs.Text.{lines}
use Rattle.file_format.specs.Layout.{body}
use Rattle.file_format.proofs.LayoutLaws.{rest_from}
use borrow.Author.Rules.{rules}
use Rattle.file_layout.proofs.body_in.Statement.{statement}
use Rattle.file_layout.proofs.body_in.Tie as tie

sub-result : tie.Need-slice_bounds-result-count
sub-result c = c.requires.inside 14 (omega arith)

part-result-start : tie.Need-slice_bounds-result-start
part-result-start c = let h = c.requires.inside 14 (omega arith) in search rules

part-result-end : tie.Need-slice_bounds-result-end
part-result-end c = let h = c.requires.inside 14 (omega arith) in search rules

returns : tie.Need-returns
unfolding body
returns c = let s = c in ap lines (rest_from _ s.args.text.now) ∙ s.requires.from_there 14 (omega arith)

pub body_in_spec : {M : Type 1} → statement M
body_in_spec = tie.close (tie.spec (λ c. search rules) sub-result part-result-start part-result-end returns)
