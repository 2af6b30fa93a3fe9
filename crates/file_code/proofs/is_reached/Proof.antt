-- `file_code::is_reached` meets its contract. Assumes nothing.
use mathlib.Core.Path.{◌∙◌}
use Prim.Native.Nat.{◌-◌}
use native.Mathlib.Omega.{arith}
use Rattle.file_format.specs.Rows.{value, argument_reaches}
use Rattle.file_code.proofs.CodeLaws.{sum_fits, reach-range, reach-within, reached-none}
use borrow.Author.Rules.{rules}
use Rattle.file_code.proofs.is_reached.Statement.{statement}
use Rattle.file_code.proofs.is_reached.Tie as tie

returns : tie.Need-returns-then-count-eq0
unfolding argument_reaches
returns c = λ w e.
    let start = c in
    reached-none start.args.first start.args.count start.requires.0 (value w) c.if-count-eq0.true

add-last : tie.Need-overflow_add-last
add-last c =
    let start = c in sum_fits start.args.first (start.args.count - 1) start.requires.0 (omega (arith, start.requires.1))

is-read-within-requires : tie.Need-is_read_within-requires
is-read-within-requires c κs =
    let start = c in reach-range start.args.first start.args.count start.requires.0 start.requires.1

returns-2 : tie.Need-returns
unfolding argument_reaches
returns-2 c = λ w e.
    let start = c in
    c.is_read_within.ensures w e ∙ reach-within start.args.first start.args.count start.requires.0 start.requires.1 c.if-count-eq0.false (value w)

pub is_reached_spec : {M : Type 1} → statement M
is_reached_spec =
    tie.close (tie.spec returns (λ c. search rules) (λ c. search rules) add-last is-read-within-requires returns-2)
