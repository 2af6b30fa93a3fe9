-- `file_lines::values_laid_out` meets its contract. Assumes nothing.
use mathlib.Core.Path.{sym, ◌∙◌}
use borrow.Author.Tests.{eq-eqb, ne_eqb}
use Rattle.file_format.specs.Layout.{list}
use Rattle.file_format.specs.Rows.{column_laid_out, values_laid_out}
use Rattle.file_lines.proofs.LineLaws.{and-true, and-false}
use borrow.Author.Rules.{rules}
use Rattle.file_lines.proofs.values_laid_out.Statement.{statement}
use Rattle.file_lines.proofs.values_laid_out.Tie as tie

returns : tie.Need-returns-then-count_listed
unfolding values_laid_out
returns c =
    and-true (eq-eqb _ _ (sym c.count_listed.ensures ∙ c.if-count_listed.true ∙ c.count_listed-2.ensures)) c.column_laid_out.ensures

returns-2 : tie.Need-returns
unfolding values_laid_out
returns-2 c =
    let start = c in
    and-false (column_laid_out start.args.c (list start.args.line.now))
    (ne_eqb _ _ (λ e. c.if-count_listed.false (c.count_listed.ensures ∙ e ∙ sym c.count_listed-2.ensures)))

pub values_laid_out_spec : {M : Type 1} → statement M
values_laid_out_spec =
    tie.close
    (tie.spec
    (λ c κs. search rules)
    (λ c κs. search rules)
    (λ c κs. search rules)
    returns
    returns-2)
