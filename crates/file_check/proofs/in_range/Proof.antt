-- `file_check::in_range` meets its contract. Assumes nothing.
use Rattle.text.specs.Text.{lines}
use Rattle.file_lines.proofs.LineLaws.{arm}
use Rattle.file_format.specs.Rows.{in_range}
use Rattle.file_check.proofs.ContextLaws.{ranged-values, code_other}
use borrow.Author.Rules.{rules}
use Rattle.file_check.proofs.in_range.Statement.{statement}
use Rattle.file_check.proofs.in_range.Tie as tie

returns : tie.Need-returns-in-Names
unfolding in_range
returns c = search rules

returns-2 : tie.Need-returns-in-Values
returns-2 c =
    let a = c.args in
    arm (λ o. in_range (lines a.text.now) o a.line.now) c.in-Values.is (ranged-values (lines a.text.now) a.line.now _ _ _ _ c.line_in.ensures c.values_in_range.ensures)

returns-3 : tie.Need-returns-in-Code
returns-3 c = code_other _ _ c.in-Code.is c.requires.0

returns-4 : tie.Need-returns-in-Answer
unfolding in_range
returns-4 c = let a = c.args in arm (λ o. in_range (lines a.text.now) o a.line.now) c.in-Answer.is c.answer_in_range.ensures

pub in_range_spec : {M : Type 1} → statement M
in_range_spec =
    tie.close
    (tie.spec
    (λ c. search rules)
    (λ c. search rules)
    (λ c κs. search rules)
    (λ c κs. search rules)
    (λ c. search rules)
    (λ c. search rules)
    (λ c κs. search rules)
    returns
    returns-2
    returns-3
    returns-4)
