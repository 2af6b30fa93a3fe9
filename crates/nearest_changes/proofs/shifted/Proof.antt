-- `nearest_changes::shifted` meets its contract. Assumes nothing.
use mathlib.Core.Path.{sym, ◌∙◌}
use lib.IntN.{◌+ℤ◌, ◌-ℤ◌}
use Rattle.numbers.proofs.SignedLaws.{cast_fits, sum_fits, difference-fits}
use Rattle.nearest_changes.proofs.AmountLaws.{amount-fits, amount-read}
use Rattle.nearest_changes.proofs.TrialLaws.{shift-down, shift-up}
use borrow.Author.Rules.{rules}
use Rattle.nearest_changes.proofs.shifted.Statement.{statement}
use Rattle.nearest_changes.proofs.shifted.Tie as tie

cast-result : tie.Need-overflow_cast-result
cast-result c = let s = c in cast_fits s.args.v s.ranges.v

add-result : tie.Need-overflow_add-result
add-result c = let s = c in amount-fits ◌+ℤ◌ sum_fits s.args.v s.ranges.v s.args.n s.requires

returns : tie.Need-returns-then-d-eq1
returns c =
    let s = c in
    amount-read ◌+ℤ◌ sum_fits s.args.v s.ranges.v s.args.n s.requires ∙ sym (shift-up s.args.d s.args.n s.args.v c.if-d-eq1.true)

cast-result-3 : tie.Need-overflow_cast-result-2
cast-result-3 c = let s = c in cast_fits s.args.v s.ranges.v

sub-result : tie.Need-overflow_sub-result
sub-result c = let s = c in amount-fits ◌-ℤ◌ difference-fits s.args.v s.ranges.v s.args.n s.requires

returns-2 : tie.Need-returns
returns-2 c =
    let s = c in
    amount-read ◌-ℤ◌ difference-fits s.args.v s.ranges.v s.args.n s.requires ∙ sym (shift-down s.args.d s.args.n s.args.v c.if-d-eq1.false)

pub shifted_spec : {M : Type 1} → statement M
shifted_spec =
    tie.close
    (tie.spec
    cast-result
    (λ c. search rules)
    add-result
    returns
    cast-result-3
    (λ c. search rules)
    sub-result
    returns-2)
