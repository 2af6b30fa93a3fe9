-- `file_layout::is_names` meets its contract. Assumes nothing.
use mathlib.Core.Path.{sym, ap, ap₂, ◌∙◌}
use lib.Dec.{eqb}
use Rattle.file_format.specs.Layout.{is_names}
use Rattle.file_format.proofs.LayoutLaws.{not-names}
use borrow.Author.Rules.{rules}
use Rattle.file_layout.proofs.is_names.Statement.{statement}
use Rattle.file_layout.proofs.is_names.Tie as tie

returns : tie.Need-returns-in_default
returns c = not-names _ c.args.role c.in_default.in_default-own.keys2

returns-2 : tie.Need-returns
returns-2 c = ap₂ eqb c.section_place.ensures c.section_place-2.ensures ∙ sym (ap (is_names _) c.in-Names.is)

pub is_names_spec : {M : Type 1} → statement M
is_names_spec =
    tie.close
    (tie.spec (λ c. search rules) returns (λ c κs. search rules) (λ c κs. search rules) returns-2)
