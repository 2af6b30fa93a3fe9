-- `file_code::argument_named` meets its contract. Assumes nothing.
use Rattle.file_format.specs.Layout.{list}
use Rattle.file_format.specs.Rows.{argument_named}
use Rattle.file_lines.proofs.LineLaws.{arm}
use Rattle.file_code.proofs.CodeLaws.{no_call}
use borrow.Author.Rules.{rules}
use Rattle.file_code.proofs.argument_named.Statement.{statement}
use Rattle.file_code.proofs.argument_named.Tie as tie

returns : tie.Need-returns-in_default
returns c = let a = c.args in no_call (list a.primitives.now) a.w.now a.a c.in_default.in_default-own.keys2

returns-2 : tie.Need-returns
unfolding argument_named
returns-2 c =
    let a = c.args in
    arm (argument_named (list a.primitives.now) a.w.now) c.in-Primitive.is c.is_listed.ensures

pub argument_named_spec : {M : Type 1} → statement M
argument_named_spec = tie.close (tie.spec (λ c. search rules) returns (λ c κs. search rules) returns-2)
