-- `file_check::laid_out` meets its contract. Assumes nothing.
use Rattle.file_check.proofs.ContextLaws.{laid-values, code_other}
use Rattle.text.specs.Text.{lines}
use Rattle.file_format.specs.Rows.{is_laid_out}
use Rattle.file_lines.proofs.LineLaws.{arm}
use borrow.Author.Rules.{rules}
use Rattle.file_check.proofs.laid_out.Statement.{statement}
use Rattle.file_check.proofs.laid_out.Tie as tie

returns : tie.Need-returns-in-Names
unfolding is_laid_out
returns c = let a = c.args in arm (λ o. is_laid_out (lines a.text.now) o a.line.now) c.in-Names.is c.names_laid_out.ensures

returns-2 : tie.Need-returns-in-Values
returns-2 c =
    let a = c.args in
    arm (λ o. is_laid_out (lines a.text.now) o a.line.now) c.in-Values.is (laid-values (lines a.text.now) a.line.now _ _ _ _ c.line_in.ensures c.values_laid_out.ensures)

returns-3 : tie.Need-returns-in-Code
returns-3 c = code_other _ _ c.in-Code.is c.requires.0

returns-4 : tie.Need-returns-in-Answer
unfolding is_laid_out
returns-4 c = let a = c.args in arm (λ o. is_laid_out (lines a.text.now) o a.line.now) c.in-Answer.is c.answer_laid_out.ensures

pub laid_out_spec : {M : Type 1} → statement M
laid_out_spec =
    tie.close
    (tie.spec
    (λ c. search rules)
    (λ c κs. search rules)
    (λ c. search rules)
    (λ c κs. search rules)
    (λ c κs. search rules)
    (λ c. search rules)
    (λ c. search rules)
    (λ c κs. search rules)
    returns
    returns-2
    returns-3
    returns-4)
