-- `file_lines::answer_laid_out` meets its contract. Assumes nothing.
use borrow.Author.Tests.{lt-ltb, le-ltb}
use Rattle.text_decimals.specs.Decimal.{numeral}
use Rattle.file_format.specs.Rows.{is_numeral}
use Rattle.file_lines.proofs.LineLaws.{and-true, and-false}
use borrow.Author.Rules.{rules}
use Rattle.file_lines.proofs.answer_laid_out.Statement.{statement}
use Rattle.file_lines.proofs.answer_laid_out.Tie as tie

returns : tie.Need-returns-then-k-ge64
returns c =
    and-false (is_numeral (numeral c.args.line.now)) (le-ltb c.args.k 64 c.if-k-ge64.true)

returns-2 : tie.Need-returns
returns-2 c = and-true (lt-ltb c.args.k 64 c.if-k-ge64.false) c.is_numeral.ensures

pub answer_laid_out_spec : {M : Type 1} → statement M
answer_laid_out_spec = tie.close (tie.spec returns (λ c κs. search rules) returns-2)
