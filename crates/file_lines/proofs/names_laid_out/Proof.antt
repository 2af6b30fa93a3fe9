-- `file_lines::names_laid_out` meets its contract. Assumes nothing.
use mathlib.Core.Path.{refl, ap, ◌∙◌}
use lib.Dec.{leb, ltb}
use Rattle.file_format.specs.Layout.{list}
use Rattle.file_format.specs.Rows.{names_laid_out}
use Rattle.file_lines.proofs.LineLaws.{arm, filled}
use borrow.Author.Rules.{rules}
use Rattle.file_lines.proofs.names_laid_out.Statement.{statement}
use Rattle.file_lines.proofs.names_laid_out.Tie as tie

enum_told : tie.Need-enum_told-1
enum_told c = search rules

returns : tie.Need-returns-in-Limits
unfolding names_laid_out
returns c =
    arm (λ s. names_laid_out s c.args.line.now) c.in-Limits.is c.same.ensures

returns-2 : tie.Need-returns-in-Kinds
unfolding names_laid_out
returns-2 c = arm (λ s. names_laid_out s c.args.line.now) c.in-Kinds.is refl

returns-3 : tie.Need-returns-in-Primitives
unfolding names_laid_out
returns-3 c =
    arm (λ s. names_laid_out s c.args.line.now) c.in-Primitives.is (ap (λ n. leb n 32) c.count_listed.ensures)

returns-4 : tie.Need-returns-in-Cells
unfolding names_laid_out
returns-4 c =
    arm (λ s. names_laid_out s c.args.line.now) c.in-Cells.is (ap (ltb 0) c.count_listed-in-Cells.ensures ∙ filled (list c.args.line.now))

returns-5 : tie.Need-returns-in-Fields
unfolding names_laid_out
returns-5 c = arm (λ s. names_laid_out s c.args.line.now) c.in-Fields.is refl

returns-6 : tie.Need-returns-in-Instructions
unfolding names_laid_out
returns-6 c =
    arm (λ s. names_laid_out s c.args.line.now) c.in-Instructions.is c.same-in-Instructions.ensures

returns-7 : tie.Need-returns-in-Answers
unfolding names_laid_out
returns-7 c =
    arm (λ s. names_laid_out s c.args.line.now) c.in-Answers.is c.same-in-Answers.ensures

pub names_laid_out_spec : {M : Type 1} → statement M
names_laid_out_spec =
    tie.close
    (tie.spec
    enum_told
    (λ c κs. search rules)
    (λ c. search rules)
    (λ c. search rules)
    (λ c κs. search rules)
    (λ c. search rules)
    (λ c κs. search rules)
    (λ c. search rules)
    (λ c. search rules)
    (λ c κs. search rules)
    (λ c. search rules)
    (λ c κs. search rules)
    returns
    returns-2
    returns-3
    returns-4
    returns-5
    returns-6
    returns-7)
