-- `file_code::argument_forward` meets its contract. Assumes nothing.
use mathlib.Core.Path.{ap, ◌∙◌}
use lib.IntN.{pos, ◌+ℤ◌}
use Rattle.instructions.specs.declared.Argument.TheVariants.{Target}
use Rattle.file_format.specs.Rows.{argument_forward}
use Rattle.file_lines.proofs.LineLaws.{arm}
use Rattle.file_code.proofs.CodeLaws.{no_jump, sum_fits, own-near, own_is}
use borrow.Author.Rules.{rules}
use Rattle.file_code.proofs.argument_forward.Statement.{statement}
use Rattle.file_code.proofs.argument_forward.Tie as tie

returns : tie.Need-returns-in_default
returns c = λ w e. let a = c.args in no_jump (a.first +ℤ pos a.k) w a.a c.in_default.in_default-own.keys2

add-own : tie.Need-overflow_add-own
add-own c = let start = c in sum_fits start.args.first start.args.k start.requires.0 start.requires.1

is-read-above-requires : tie.Need-is_read_above-requires
is-read-above-requires c κs = let start = c in own-near start.args.first start.args.k start.requires.0 start.requires.1

returns-2 : tie.Need-returns
unfolding argument_forward
returns-2 c = λ w e.
    let start = c in
    let a = start.args in
    arm (argument_forward (a.first +ℤ pos a.k) w) c.in-Target.is
    (c.is_read_above.ensures w e ∙ ap (λ z. argument_forward z w Target) (own_is a.first a.k start.requires.0 start.requires.1))

pub argument_forward_spec : {M : Type 1} → statement M
argument_forward_spec =
    tie.close (tie.spec (λ c. search rules) returns (λ c. search rules) add-own is-read-above-requires returns-2)
