-- `replay_trace::entry_in_range` meets its contract. Assumes nothing.
use mathlib.Core.Path.{sym, ap₂, ◌∙◌}
use native.Mathlib.Omega.{arith}
use Rattle.numbers.specs.Numbers.{within}
use Rattle.file_format.specs.Rows.{value}
use Rattle.replay_trace.specs.Traces.{cycle_range, recorded_cycles, entry_in_range}
use Rattle.file_lines.proofs.LineLaws.{and-true, and-false, near-range}
use borrow.Author.Rules.{rules}
use Rattle.replay_trace.proofs.entry_in_range.Statement.{statement}
use Rattle.replay_trace.proofs.entry_in_range.Tie as tie

is-within-requires : tie.Need-is_within-requires
is-within-requires c κs = near-range 0 62000 (omega arith) (omega arith) c.addresses.ensures

is-within-requires-2 : tie.Need-is_within-requires-then-is_within
is-within-requires-2 c κs = near-range 0 4000000000 (omega arith) (omega arith) c.cycle_range.ensures

returns : tie.Need-returns-then-is_within
unfolding entry_in_range
returns c =
    let at-addresses = c in
    let at-word-at2 = at-addresses in
    let at-word-at = at-word-at2 in
    and-true (sym (c.is_within.ensures ∙ ap₂ (λ r w. within r (value w)) at-addresses.addresses.ensures at-word-at.word_at-at.ensures) ∙ c.if-is_within.true)
    (c.is_within-then-is_within.ensures ∙ ap₂ (λ r w. within r (value w)) c.cycle_range.ensures at-word-at2.word_at-cycles.ensures)

returns-2 : tie.Need-returns
unfolding entry_in_range
returns-2 c =
    and-false (within cycle_range (value (recorded_cycles c.args.line.now)))
    (sym (c.is_within.ensures ∙ ap₂ (λ r w. within r (value w)) c.addresses.ensures c.word_at-at.ensures) ∙ c.if-is_within.false)

pub entry_in_range_spec : {M : Type 1} → statement M
entry_in_range_spec =
    tie.close
    (tie.spec
    (λ c κs. search rules)
    (λ c κs. search rules)
    (λ c κs. search rules)
    is-within-requires
    (λ c κs. search rules)
    is-within-requires-2
    returns
    returns-2)
