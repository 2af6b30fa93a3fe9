-- `file_code::argument_laid_out` meets its contract. Assumes nothing.
use mathlib.Core.Path.{ap}
use mathlib.Core.Bool.{not}
use Rattle.file_format.specs.Rows.{argument_laid_out}
use Rattle.file_lines.proofs.LineLaws.{arm}
use borrow.Author.Rules.{rules}
use Rattle.file_code.proofs.argument_laid_out.Statement.{statement}
use Rattle.file_code.proofs.argument_laid_out.Tie as tie

returns : tie.Need-returns-in-Absent
unfolding argument_laid_out
returns c = arm (argument_laid_out c.args.w.now) c.in-Absent.is c.same.ensures

returns-2 : tie.Need-returns-in-Target
unfolding argument_laid_out
returns-2 c = arm (argument_laid_out c.args.w.now) c.in-Target.is (c.is_spelt.ensures _ c.requires)

returns-3 : tie.Need-returns-in-Primitive
unfolding argument_laid_out
returns-3 c = arm (argument_laid_out c.args.w.now) c.in-Primitive.is (ap not c.same-in-Primitive.ensures)

returns-4 : tie.Need-returns-in-Within
unfolding argument_laid_out
returns-4 c = arm (argument_laid_out c.args.w.now) c.in-Within.is (c.is_spelt-in-Within.ensures _ c.requires)

pub argument_laid_out_spec : {M : Type 1} → statement M
argument_laid_out_spec =
    tie.close
    (tie.spec
    (λ c. search rules)
    (λ c κs. search rules)
    (λ c. search rules)
    (λ c κs. search rules)
    (λ c. search rules)
    (λ c κs. search rules)
    (λ c. search rules)
    (λ c κs. search rules)
    returns
    returns-2
    returns-3
    returns-4)
