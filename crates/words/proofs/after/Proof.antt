-- `words::after` meets its contract. Assumes nothing.
use native.Mathlib.Omega.{arith}
use Rattle.words.proofs.HeadLaws.{size_small, after_is}
use borrow.Author.Rules.{rules}
use Rattle.words.proofs.after.Statement.{statement}
use Rattle.words.proofs.after.Tie as tie

mul-size : tie.Need-overflow_mul-size
mul-size c = let s = size_small c.args.k in omega (arith, c.size_of-size.ensures)

sub-result : tie.Need-slice_bounds-result-count
sub-result c = omega (arith, c.size_of-size.ensures)

returns : tie.Need-returns
returns c =
    let a = c.args in
    let e = c.size_of-size.ensures in
    let h = c.requires.1 in
    after_is a.k a.words.now c.size_of-size.result e h

pub after_spec : {M : Type 1} → statement M
after_spec =
    tie.close
    (tie.spec (λ c κs. search rules) mul-size sub-result (λ c. search rules) (λ c. search rules) returns)
