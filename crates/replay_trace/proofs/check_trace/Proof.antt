-- `replay_trace::check_trace` meets its contract. Assumes nothing.
use Rattle.std.specs.Prelude.{None}
use mathlib.Core.Path.{◌≡◌, sym, ◌∙◌}
use Rattle.text.specs.Text.{lines}
use Rattle.replay_trace.specs.Traces.{line_laid_out, earliest}
use Rattle.replay_trace.specs.HeldScan.{line_test}
use Rattle.replay_trace.proofs.TraceLaws.{check-long, check-empty, check-layout, check-range, check-accepted}
use borrow.Author.Rules.{rules}
use Rattle.replay_trace.proofs.check_trace.Statement.{statement}
use Rattle.replay_trace.proofs.check_trace.Tie as tie

-- row 2 refuses no line
row-layout : (c : tie.In_default) → earliest line_laid_out 0 (lines c.args.trace.now) ≡ None
unfolding line_test
row-layout c = sym c.earliest-layout.ensures ∙ c.in_default.is

returns : tie.Need-returns-then-trace-gt131072
returns c = check-long _ c.if-trace-gt131072.true

returns-2 : tie.Need-returns-then-trace-eq0
returns-2 c = check-empty _ c.if-trace-gt131072.false c.if-trace-eq0.true

returns-3 : tie.Need-returns-in-Some
unfolding line_test
returns-3 c = check-layout _ c.if-trace-gt131072.false c.if-trace-eq0.false _ (sym c.earliest-layout.ensures ∙ c.in-Some.is)

returns-4 : tie.Need-returns-in-Some-range
unfolding line_test
returns-4 c =
    let c1 = c in
    let at-if2 = c1 in
    let at-if1 = at-if2 in
    check-range _ at-if1.if-trace-gt131072.false at-if2.if-trace-eq0.false _ (row-layout c1.before.before) (sym c.earliest-range.ensures ∙ c.in-Some-range.is)

returns-5 : tie.Need-returns
unfolding line_test
returns-5 c = check-accepted _ c.if-trace-gt131072.false c.if-trace-eq0.false (row-layout c.before.before) (sym c.earliest-range.ensures ∙ c.in_default-range.is)

pub check_trace_spec : {M : Type 1} → statement M
check_trace_spec =
    tie.close
    (tie.spec
    returns
    returns-2
    (λ c κs. search rules)
    (λ c. search rules)
    returns-3
    (λ c. search rules)
    (λ c κs. search rules)
    (λ c. search rules)
    returns-4
    (λ c. search rules)
    returns-5)
