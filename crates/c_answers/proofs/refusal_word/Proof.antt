-- `c_answers::refusal_word` meets its contract. Assumes nothing.
use native.Mathlib.Omega.{arith}
use Prim.Native.Nat.{◌≤◌}
use Rattle.c_answers.proofs.ToldLaws.{number_small, word-refused}
use borrow.Author.Rules.{rules}
use Rattle.c_answers.proofs.refusal_word.Statement.{statement}
use Rattle.c_answers.proofs.refusal_word.Tie as tie

mul-result : tie.Need-overflow_mul-result
mul-result c = let n : c.number-number.result ≤ 14 = (rw c.number-number.ensures (number_small c.args.r)) in omega arith

add-result : tie.Need-overflow_add-result
add-result c = let n : c.number-number.result ≤ 14 = (rw c.number-number.ensures (number_small c.args.r)) in omega arith

add-result-2 : tie.Need-overflow_add-result-2
add-result-2 c = let n : c.number-number.result ≤ 14 = (rw c.number-number.ensures (number_small c.args.r)) in omega arith

returns : tie.Need-returns
returns c = word-refused _ _ _ c.number-number.ensures c.place-place.ensures

pub refusal_word_spec : {M : Type 1} → statement M
refusal_word_spec =
    tie.close (tie.spec (λ c κs. search rules) (λ c κs. search rules) mul-result add-result add-result-2 returns)
