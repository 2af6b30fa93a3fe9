-- `text::is_among` meets its contract. Assumes nothing.
use mathlib.Core.Path.{sym, ap, ◌∙◌}
use borrow.Author.Rules.{rules}
use Rattle.text.proofs.TextLaws.{is_found, among-place}
use Rattle.text.proofs.is_among.Statement.{statement}
use Rattle.text.proofs.is_among.Tie as tie

enum_told : tie.Need-enum_told-1
enum_told c = search rules

returns : tie.Need-returns-in_default
returns c = sym (among-place 0 _ _ ∙ ap (λ r. is_found r.place) (sym c.find-found.ensures) ∙ ap is_found c.in_default.is)

returns-2 : tie.Need-returns
returns-2 c = sym (among-place 0 _ _ ∙ ap (λ r. is_found r.place) (sym c.find-found.ensures) ∙ ap is_found c.in-Some.is)

pub is_among_spec : {M : Type 1} → statement M
is_among_spec = tie.close (tie.spec (λ c κs. search rules) enum_told (λ c. search rules) returns returns-2)
