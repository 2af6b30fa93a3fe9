-- `file_layout::listed_at` meets its contract. Assumes nothing.
use mathlib.Core.Path.{sym, ap, ◌∙◌}
use mathlib.Core.List.{[]}
use lib.ListN.{get_or}
use Rattle.file_format.proofs.LayoutLaws.{list-none, list-words}
use borrow.Author.Rules.{rules}
use Rattle.file_layout.proofs.listed_at.Statement.{statement}
use Rattle.file_layout.proofs.listed_at.Tie as tie

returns : tie.Need-returns-then-same
returns c =
    sym (ap (λ ws. get_or ws c.args.k []) (list-none c.args.line.now (sym c.same.ensures ∙ c.if-same.true)))

returns-2 : tie.Need-returns
returns-2 c =
    c.word_at.ensures ∙ sym (ap (λ ws. get_or ws c.args.k []) (list-words c.args.line.now (sym c.same.ensures ∙ c.if-same.false)))

pub listed_at_spec : {M : Type 1} → statement M
listed_at_spec =
    tie.close
    (tie.spec
    (λ c κs. search rules)
    (λ c. search rules)
    returns
    (λ c κs. search rules)
    returns-2)
