-- `file_code::argument_in_range` meets its contract. Assumes nothing.
use mathlib.Core.Path.{ap, subst, ◌∙◌}
use native.Mathlib.Omega.{arith}
use Rattle.numbers.specs.Numbers.{within}
use Rattle.instructions.specs.HeldColumns.{range_of}
use Rattle.file_format.specs.Rows.{value, argument_in_range}
use Rattle.file_values.specs.HeldValues.{Near}
use Rattle.file_lines.proofs.LineLaws.{arm, near-range}
use Rattle.file_code.proofs.CodeLaws.{no_number}
use borrow.Author.Rules.{rules}
use Rattle.file_code.proofs.argument_in_range.Statement.{statement}
use Rattle.file_code.proofs.argument_in_range.Tie as tie

is-read-within-requires : tie.Need-is_read_within-requires
is-read-within-requires c κs = near-range 0 62000 (omega arith) (omega arith) c.addresses.ensures

is-read-within-requires-2 : tie.Need-is_read_within-requires-in-Within
unfolding range_of
is-read-within-requires-2 c κs = subst Near (ap range_of c.in-Within.is) c.requires

returns : tie.Need-returns-in-Target
unfolding argument_in_range
returns c = λ w e. arm (argument_in_range w) c.in-Target.is (c.is_read_within.ensures w e ∙ ap (λ r. within r (value w)) c.addresses.ensures)

returns-2 : tie.Need-returns-in-Within
unfolding argument_in_range
returns-2 c = λ w e. arm (argument_in_range w) c.in-Within.is (c.is_read_within-in-Within.ensures w e)

returns-3 : tie.Need-returns-in_default
returns-3 c = λ w e. no_number w c.args.a c.in_default.in_default-own.keys3

pub argument_in_range_spec : {M : Type 1} → statement M
argument_in_range_spec =
    tie.close
    (tie.spec
    (λ c. search rules)
    (λ c κs. search rules)
    is-read-within-requires
    (λ c. search rules)
    is-read-within-requires-2
    returns
    returns-2
    returns-3)
