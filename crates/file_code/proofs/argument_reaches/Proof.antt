-- `file_code::argument_reaches` meets its contract. Assumes nothing.
use mathlib.Core.Path.{ap, ◌∙◌}
use mir.Syntax.{w64}
use mir.ValLaws.{to_z-of_z}
use Rattle.instructions.specs.declared.Argument.TheVariants.{Target}
use Rattle.file_format.specs.Rows.{argument_reaches}
use Rattle.file_lines.proofs.LineLaws.{arm}
use Rattle.file_code.proofs.CodeLaws.{no_target}
use borrow.Author.Rules.{rules}
use Rattle.file_code.proofs.argument_reaches.Statement.{statement}
use Rattle.file_code.proofs.argument_reaches.Tie as tie

returns : tie.Need-returns-in_default
returns c = λ w e. let a = c.args in no_target a.first a.count w a.a c.in_default.in_default-own.keys2

returns-2 : tie.Need-returns
returns-2 c = λ w e.
    let start = c in
    let a = start.args in
    arm (argument_reaches a.first a.count w) c.in-Target.is
    (c.is_reached.ensures w e ∙ ap (λ z. argument_reaches z a.count w Target) (to_z-of_z w64 a.first start.ranges.first))

pub argument_reaches_spec : {M : Type 1} → statement M
argument_reaches_spec = tie.close (tie.spec (λ c. search rules) returns (λ c κs. search rules) returns-2)
