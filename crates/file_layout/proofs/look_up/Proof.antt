-- `file_layout::look_up` meets its contract. Assumes nothing.
use mathlib.Core.Path.{sym, ap, ◌∙◌}
use Rattle.text.specs.Text.{lookup}
use Rattle.file_format.proofs.LayoutLaws.{list-none, list-words}
use borrow.Author.Rules.{rules}
use Rattle.file_layout.proofs.look_up.Statement.{statement}
use Rattle.file_layout.proofs.look_up.Tie as tie

returns : tie.Need-returns-then-same
returns c = sym (ap (lookup _) (list-none _ (sym c.same.ensures ∙ c.if-same.true)))

returns-2 : tie.Need-returns
returns-2 c = c.find.ensures ∙ sym (ap (lookup _) (list-words _ (sym c.same.ensures ∙ c.if-same.false)))

pub look_up_spec : {M : Type 1} → statement M
look_up_spec =
    tie.close (tie.spec
    (λ c κs. search rules)
    returns
    (λ c κs. search rules)
    returns-2)
