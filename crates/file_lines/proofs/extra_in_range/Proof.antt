-- `file_lines::extra_in_range` meets its contract. Assumes nothing.
use mathlib.Core.Path.{sym, ap, ◌∙◌}
use native.Mathlib.Omega.{arith}
use Rattle.numbers.specs.Numbers.{within}
use Rattle.file_format.specs.Rows.{value}
use Rattle.file_lines.proofs.LineLaws.{near-range}
use Rattle.file_lines.proofs.ExtraLaws.{range-first, range-second, range_other}
use borrow.Author.Rules.{rules}
use Rattle.file_lines.proofs.extra_in_range.Statement.{statement}
use Rattle.file_lines.proofs.extra_in_range.Tie as tie

is-within-requires : tie.Need-is_within-requires
is-within-requires c κs = near-range 0 65535 (omega arith) (omega arith) c.extra_counts.ensures

returns : tie.Need-returns-then-same
returns c =
    let k = c in
    let a = k.args in
    c.is_within.ensures ∙ ap (λ r. within r (value a.w.now)) (c.extra_counts.ensures ∙ sym (range-first a.name.now (sym k.same.ensures ∙ c.if-same.true)))

is-within-requires-2 : tie.Need-is_within-requires-then-same-2
is-within-requires-2 c κs = near-range 0 65535 (omega arith) (omega arith) c.extra_counts-then-same-2.ensures

returns-2 : tie.Need-returns-then-same-2
returns-2 c =
    let at-if1 = c in
    let k = at-if1 in
    let start = k in
    let a = start.args in
    c.is_within-then-same-2.ensures
    ∙ ap (λ r. within r (value a.w.now))
    (c.extra_counts-then-same-2.ensures ∙ sym (range-second a.name.now (sym k.same.ensures ∙ at-if1.if-same.false) (sym c.same-2.ensures ∙ c.if-same-2.true)))

is-within-requires-3 : tie.Need-is_within-requires-2
is-within-requires-3 c κs = near-range 0 0 (omega arith) (omega arith) c.no_extra.ensures

returns-3 : tie.Need-returns
returns-3 c =
    let at-if1 = c in
    let k = at-if1 in
    let start = k in
    let a = start.args in
    c.is_within-2.ensures
    ∙ ap (λ r. within r (value a.w.now))
    (c.no_extra.ensures ∙ sym (range_other a.name.now (sym k.same.ensures ∙ at-if1.if-same.false) (sym c.same-2.ensures ∙ c.if-same-2.false)))

pub extra_in_range_spec : {M : Type 1} → statement M
extra_in_range_spec =
    tie.close
    (tie.spec
    (λ c κs. search rules)
    (λ c κs. search rules)
    is-within-requires
    returns
    (λ c κs. search rules)
    (λ c κs. search rules)
    is-within-requires-2
    returns-2
    (λ c κs. search rules)
    is-within-requires-3
    returns-3)
