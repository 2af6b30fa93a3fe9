-- `file_layout::count_listed` meets its contract. Assumes nothing.
use mathlib.Core.Path.{sym, ap, ◌∙◌}
use lib.ListN.{length}
use Rattle.file_format.proofs.LayoutLaws.{list-none, list-words}
use borrow.Author.Rules.{rules}
use Rattle.file_layout.proofs.count_listed.Statement.{statement}
use Rattle.file_layout.proofs.count_listed.Tie as tie

returns : tie.Need-returns-then-same
returns c =
    sym (ap length (list-none c.args.line.now (sym c.same.ensures ∙ c.if-same.true)))

returns-2 : tie.Need-returns
returns-2 c =
    c.count_words.ensures ∙ sym (ap length (list-words c.args.line.now (sym c.same.ensures ∙ c.if-same.false)))

pub count_listed_spec : {M : Type 1} → statement M
count_listed_spec =
    tie.close (tie.spec
    (λ c κs. search rules)
    returns
    (λ c κs. search rules)
    returns-2)
