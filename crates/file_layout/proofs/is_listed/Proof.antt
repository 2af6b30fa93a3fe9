-- `file_layout::is_listed` meets its contract. Assumes nothing.
use mathlib.Core.Path.{sym, ap, ◌∙◌}
use borrow.Author.Rules.{rules}
use Rattle.text.proofs.TextLaws.{is_found, among-place}
use Rattle.file_layout.proofs.is_listed.Statement.{statement}
use Rattle.file_layout.proofs.is_listed.Tie as tie

enum_told : tie.Need-enum_told-1
enum_told c = search rules

returns : tie.Need-returns-in_default
returns c = sym (among-place 0 _ _ ∙ ap (λ r. is_found r.place) (sym c.look_up-found.ensures) ∙ ap is_found c.in_default.is)

returns-2 : tie.Need-returns
returns-2 c = sym (among-place 0 _ _ ∙ ap (λ r. is_found r.place) (sym c.look_up-found.ensures) ∙ ap is_found c.in-Some.is)

pub is_listed_spec : {M : Type 1} → statement M
is_listed_spec = tie.close (tie.spec (λ c κs. search rules) enum_told (λ c. search rules) returns returns-2)
