-- `file_layout::index_listed` meets its contract. Assumes nothing.
use mathlib.Core.Path.{ap, ◌∙◌}
use Rattle.text.specs.Text.{index_of, find}
use borrow.Author.Rules.{rules}
use Rattle.file_layout.proofs.index_listed.Statement.{statement}
use Rattle.file_layout.proofs.index_listed.Tie as tie

returns : tie.Need-returns
unfolding find
returns c = c.index_of.ensures ∙ ap (λ r. index_of r.place) c.look_up-found.ensures

pub index_listed_spec : {M : Type 1} → statement M
index_listed_spec = tie.close (tie.spec (λ c κs. search rules) (λ c κs. search rules) returns)
