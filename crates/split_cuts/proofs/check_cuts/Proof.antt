-- `split_cuts::check_cuts` meets its contract. Assumes nothing.
use Rattle.std.specs.Prelude.{None}
use mathlib.Core.Path.{◌≡◌, refl, sym, ◌∙◌}
use Rattle.text.specs.Text.{lines}
use Rattle.replay_trace.specs.Traces.{earliest, refused_at}
use Rattle.split_cuts.specs.Cuts.{line_laid_out, line_in_range}
use Rattle.split_cuts.specs.HeldScan.{line_test}
use Rattle.split_cuts.proofs.CutsLaws.{check-long, check-empty, by_rows}
use borrow.Author.Rules.{rules}
use Rattle.split_cuts.proofs.check_cuts.Statement.{statement}
use Rattle.split_cuts.proofs.check_cuts.Tie as tie

-- row 2 refuses no line
row-layout : (c : tie.In_default) → earliest line_laid_out 0 (lines c.args.cuts.now) ≡ None
unfolding line_test
row-layout c = sym c.earliest-layout.ensures ∙ c.in_default.is

-- and row 3 none
row-range : (c : tie.In_default-range) → earliest line_in_range 0 (lines c.args.cuts.now) ≡ None
unfolding line_test
row-range c = sym c.earliest-range.ensures ∙ c.in_default-range.is

returns : tie.Need-returns-then-cuts-gt4096
returns c = check-long _ _ c.if-cuts-gt4096.true

returns-2 : tie.Need-returns-then-cuts-eq0
returns-2 c = check-empty _ _ c.if-cuts-gt4096.false c.if-cuts-eq0.true

returns-3 : tie.Need-returns-in-Some
unfolding line_test refused_at
returns-3 c =
    by_rows _ _ c.if-cuts-gt4096.false c.if-cuts-eq0.false (sym c.earliest-layout.ensures ∙ c.in-Some.is) refl refl

returns-4 : tie.Need-returns-in-Some-range
unfolding line_test refused_at
returns-4 c =
    let told = c in
    let at-if2 = told in
    by_rows _ _ at-if2.if-cuts-gt4096.false at-if2.if-cuts-eq0.false (row-layout told.before.before) (sym c.earliest-range.ensures ∙ c.in-Some-range.is) refl

returns-5 : tie.Need-returns-in-Some-name
unfolding line_test refused_at
returns-5 c =
    let told2 = c in
    let told = told2 in
    let at-if2 = told in
    by_rows _ _ at-if2.if-cuts-gt4096.false at-if2.if-cuts-eq0.false (row-layout told.before.before.before.before) (row-range told2.before.before) (sym c.earliest-name.ensures ∙ c.in-Some-name.is)

returns-6 : tie.Need-returns
unfolding line_test refused_at
returns-6 c =
    let told2 = c in
    let told = told2 in
    let at-if2 = told in
    by_rows _ _ at-if2.if-cuts-gt4096.false at-if2.if-cuts-eq0.false (row-layout told.before.before.before.before) (row-range told2.before.before) (sym c.earliest-name.ensures ∙ c.in_default-name.is)

pub check_cuts_spec : {M : Type 1} → statement M
check_cuts_spec =
    tie.close
    (tie.spec
    returns
    returns-2
    (λ c κs. search rules)
    (λ c. search rules)
    returns-3
    (λ c. search rules)
    (λ c κs. search rules)
    (λ c. search rules)
    returns-4
    (λ c. search rules)
    (λ c κs. search rules)
    (λ c. search rules)
    returns-5
    (λ c. search rules)
    returns-6)
