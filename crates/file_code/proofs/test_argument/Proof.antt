-- `file_code::test_argument` meets its contract. Assumes nothing.
use mathlib.Core.Path.{ap, ◌∙◌}
use lib.IntN.{pos, ◌+ℤ◌}
use mir.Syntax.{w64}
use mir.ValLaws.{to_z-of_z}
use Rattle.instructions.specs.HeldColumns.{range_of}
use Rattle.file_format.specs.Rows.{argument_reaches, argument_forward}
use Rattle.file_code.proofs.CodeLaws.{argument-none, argument-some, near-at}
use borrow.Author.Rules.{rules}
use Rattle.file_code.proofs.test_argument.Statement.{statement}
use Rattle.file_code.proofs.test_argument.Tie as tie

returns : tie.Need-returns-in_default
returns c = let e = c.in_default.is in record { layout = argument-none _ e; range = argument-none _ e; name = argument-none _ e; target = argument-none _ e; forward = argument-none _ e }

argument-in-range-requires : tie.Need-argument_in_range-range-requires
argument-in-range-requires c κs =
    let k = c in
    let p = k.requires.1.1 _ k.in-Some.is in
    near-at _ p.0 (ap range_of p.1)

returns-2 : tie.Need-returns
returns-2 c =
    let n = c in
    let k = n in
    let start = k in
    let e = k.in-Some.is in
    let i = (start.requires.1.1 _ e).1 in
    let z = to_z-of_z w64 start.args.first start.ranges.first in
    let arg = start.args in
    let q = n.read_numeral-n.ensures in
    record {
      layout = argument-some _ e i c.argument_laid_out-layout.ensures;
      range = argument-some _ e i (c.argument_in_range-range.ensures _ q);
      name = argument-some _ e i c.argument_named-name.ensures;
      target = argument-some (argument_reaches arg.first arg.count arg.w.now) e i (c.argument_reaches-target.ensures _ q ∙ ap (λ x. argument_reaches x arg.count arg.w.now arg.a) z);
      forward = argument-some (argument_forward (arg.first +ℤ pos arg.k) arg.w.now) e i (c.argument_forward-forward.ensures _ q ∙ ap (λ x. argument_forward (x +ℤ pos arg.k) arg.w.now arg.a) z);
    }

pub test_argument_spec : {M : Type 1} → statement M
test_argument_spec =
    tie.close
    (tie.spec
    (λ c. search rules)
    (λ c. search rules)
    returns
    (λ c κs. search rules)
    (λ c κs. search rules)
    argument-in-range-requires
    (λ c κs. search rules)
    (λ c κs. search rules)
    (λ c κs. search rules)
    returns-2)
