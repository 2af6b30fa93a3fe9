-- `file_layout::is_role` meets its contract. Assumes nothing.
use mathlib.Core.Path.{sym, ap, ◌∙◌}
use Rattle.file_format.specs.Layout.{is_role}
use Rattle.file_format.proofs.LayoutLaws.{not-laid}
use borrow.Author.Rules.{rules}
use Rattle.file_layout.proofs.is_role.Statement.{statement}
use Rattle.file_layout.proofs.is_role.Tie as tie

returns : tie.Need-returns-in-Names
returns c = c.is_names.ensures ∙ sym (ap (λ r. is_role r c.args.other) c.in-Names.is)

returns-2 : tie.Need-returns-in_default-role
returns-2 c = not-laid c.args.role _ c.in_default.in_default-own.keys2 c.in_default-role.in_default-role-own.keys2

returns-3 : tie.Need-returns
returns-3 c = c.is_values.ensures ∙ sym (ap (λ r. is_role r c.args.other) c.in-Values.is)

pub is_role_spec : {M : Type 1} → statement M
is_role_spec =
    tie.close
    (tie.spec
    (λ c. search rules)
    (λ c κs. search rules)
    returns
    (λ c. search rules)
    returns-2
    (λ c κs. search rules)
    returns-3)
