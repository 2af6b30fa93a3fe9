-- `split_cuts::line_laid_out` meets its contract. Assumes nothing.
use mathlib.Core.Path.{sym, ap, ◌∙◌}
use lib.ListN.{length, get_or}
use Rattle.text.specs.Text.{lines, no_line}
use Rattle.split_cuts.specs.Cuts.{text_laid_out, line_laid_out}
use Rattle.file_lines.proofs.LineLaws.{and-true, and-false}
use borrow.Author.Rules.{rules}
use Rattle.split_cuts.proofs.line_laid_out.Statement.{statement}
use Rattle.split_cuts.proofs.line_laid_out.Tie as tie

line-ends-requires : tie.Need-line_ends-ended-requires
line-ends-requires c κs = ap length c.first_line-line.ensures

returns : tie.Need-returns-then-ended
unfolding line_laid_out
returns c = and-true (sym c.line_ends-ended.ensures ∙ c.if-ended.true) (c.laid_out.ensures ∙ ap (text_laid_out c.args.k) c.first_line-line.ensures)

returns-2 : tie.Need-returns
unfolding line_laid_out
returns-2 c =
    let start = c in
    and-false (text_laid_out start.args.k (get_or (lines start.args.rest.now) 0 no_line).text) (sym c.line_ends-ended.ensures ∙ c.if-ended.false)

pub line_laid_out_spec : {M : Type 1} → statement M
line_laid_out_spec =
    tie.close (tie.spec (λ c κs. search rules) line-ends-requires (λ c κs. search rules) returns returns-2)
