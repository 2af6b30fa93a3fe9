-- `file_lines::limits_in_range` meets its contract. Assumes nothing.
use mathlib.Core.Path.{sym, ap₂, ◌∙◌}
use mathlib.Core.List.{[]}
use native.Mathlib.Omega.{arith}
use lib.ListN.{get_or}
use Rattle.numbers.specs.Numbers.{within}
use Rattle.file_format.specs.Layout.{list}
use Rattle.file_format.specs.Rows.{value, ticks, column_in_range}
use Rattle.file_lines.proofs.LineLaws.{and-true, and-false, near-range}
use borrow.Author.Rules.{rules}
use Rattle.file_lines.proofs.limits_in_range.Statement.{statement}
use Rattle.file_lines.proofs.limits_in_range.Tie as tie

is-within-requires : tie.Need-is_within-requires
is-within-requires c κs = near-range 1 1000000 (omega arith) (omega arith) c.budgets.ensures

is-within-requires-2 : tie.Need-is_within-requires-then-is_within
is-within-requires-2 c κs = near-range 1 4000000000 (omega arith) (omega arith) c.ticks.ensures

returns : tie.Need-returns-then-is_within
unfolding column_in_range
returns c =
    let at-budgets = c in
    let at-listed-at2 = at-budgets in
    let at-listed-at = at-listed-at2 in
    and-true (sym (c.is_within.ensures ∙ ap₂ (λ r w. within r (value w)) at-budgets.budgets.ensures at-listed-at.listed_at-budget.ensures) ∙ c.if-is_within.true)
    (c.is_within-then-is_within.ensures ∙ ap₂ (λ r w. within r (value w)) c.ticks.ensures at-listed-at2.listed_at-tick.ensures)

returns-2 : tie.Need-returns
unfolding column_in_range
returns-2 c =
    and-false (within ticks (value (get_or (list c.args.line.now) 1 [])))
    (sym (c.is_within.ensures ∙ ap₂ (λ r w. within r (value w)) c.budgets.ensures c.listed_at-budget.ensures) ∙ c.if-is_within.false)

pub limits_in_range_spec : {M : Type 1} → statement M
limits_in_range_spec =
    tie.close
    (tie.spec
    (λ c κs. search rules)
    (λ c κs. search rules)
    (λ c κs. search rules)
    is-within-requires
    (λ c κs. search rules)
    is-within-requires-2
    returns
    returns-2)
