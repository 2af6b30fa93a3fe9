-- `file_check::scan` meets its contract. The loop's invariant: for every row that is due the lines left decide as long as it refuses none, and else the
-- line that is kept is the earliest (`Keeps`). The measure is the length of what is left. Assumes nothing.
use Rattle.std.specs.Prelude.{None, Option, Some}
use Prim.Native.Nat.{ℕ, ◌+◌, ◌≤◌}
use mathlib.Core.Path.{◌≡◌, sym, ap, subst, ◌∙◌}
use mathlib.Core.Bool.{true}
use mathlib.Core.Logic.{◌⊎◌, ⊎_elim}
use borrow.Author.Tests.{eq-eqb}
use native.Mathlib.Omega.{arith}
use lib.Dec.{eqb}
use lib.ListN.{length}
use Rattle.text.specs.Text.{lines}
use Rattle.instructions.proofs.ColumnLaws.{kind-below}
use Rattle.file_format.specs.declared.Row.{Row}
use Rattle.file_format.specs.declared.Row.TheVariants.{Layout, Name, Price}
use Rattle.file_format.specs.Layout.{list}
use Rattle.file_format.specs.Rows.{test, refused_line}
use Rattle.file_code.specs.HeldCode.{PricesKept}
use Rattle.file_code.proofs.PriceLaws.{none-kept-yet}
use Rattle.file_check.specs.declared.CodeLine.{CodeLine}
use Rattle.file_check.specs.HeldScan.{Small, HeadingBefore, line_with}
use Rattle.file_check.specs.HeldChecks.{Due, tested_by, kept_by, refused_at}
use Rattle.file_check.proofs.ScanLaws.{heading-start, heading-next}
use Rattle.file_check.proofs.LoopLaws.{role-small, Keeps, keeps-start, keeps-done, keeps-goes, keeps-ends, refused-some, none_kept}
use Rattle.file_check.proofs.CheckLaws.{due-after-layout}
use Rattle.file_check.proofs.FoundLaws.{address-low}
use Rattle.file_check.proofs.ContextLaws.{not_code, small-code, code-tests-at}
use borrow.Author.Rules.{rules}
use Rattle.file_check.proofs.scan.Statement.{statement}
use Rattle.file_check.proofs.scan.Tie as tie

abbrev invariant-loop-rest : tie.invariant-loop-rest
invariant-loop-rest text places kinds primitives counts keyed starts table codes lows highs prices₀ kept₀ rest₀ passed₀ heading₀ prices kept rest passed heading =
    PricesKept (list kinds) prices × HeadingBefore passed heading × (passed + length rest ≤ length text)
    × ((row : Row) → Due row (lines text) → Keeps row text rest passed heading (kept_by row kept))

abbrev decreases-loop-rest : tie.decreases-loop-rest
decreases-loop-rest text places kinds primitives counts keyed starts table codes lows highs prices₀ kept₀ rest₀ passed₀ heading₀ prices kept rest passed heading = length rest

loop-holds : tie.Need-loop-rest-init invariant-loop-rest decreases-loop-rest
loop-holds c = (none-kept-yet _, heading-start, omega arith, λ row d. keeps-start row _ (c.none_refused-kept.ensures row))

line-ends-requires : tie.Need-line_ends-ended-requires invariant-loop-rest decreases-loop-rest
line-ends-requires c κs = ap length c.first_line-line.ensures

role-of-requires : tie.Need-role_of-role-requires invariant-loop-rest decreases-loop-rest
role-of-requires c κs = c.loop-rest.invariant.1

-- the number of a line is small
small : (c : tie.In-loop-rest invariant-loop-rest decreases-loop-rest) → c.loop-rest.passed ≤ 32768
small c = let q = c.loop-rest.invariant.2 in let r = c.requires.0.0 in omega arith

slice-aggregate-cut-code : tie.Need-slice_bounds-cut_code-end invariant-loop-rest decreases-loop-rest
slice-aggregate-cut-code c = search (c.all_names-table.type_inv, rules)

cut-code-requires : tie.Need-cut_code-words-requires invariant-loop-rest decreases-loop-rest
cut-code-requires c κs =
    let n = c in
    (n.keyed_kinds-keyed.ensures, n.name_starts-starts.ensures, n.all_names-table.ensures)

argument-in-requires : tie.Need-argument_in-takes-requires invariant-loop-rest decreases-loop-rest
argument-in-requires c κs =
    let h = c in
    ((h.argument_codes-codes.ensures, h.range_lows-lows.ensures, h.range_highs-highs.ensures), λ k e. kind-below _ (sym c.cut_code-words.ensures.kind ∙ e))

test-code-requires : tie.Need-test_code-tests-requires invariant-loop-rest decreases-loop-rest
test-code-requires c κs =
    let line = c in
    let role = line in
    let l = role in
    let x = l.requires.1 in
    let k = small-code _ _ role.in-Code.is (subst Small (sym role.role_of-role.ensures) (role-small _ _ _ (small role.before.before.before.before.before.before.before.before.before.before.before.before.before.before.before))) in
    (subst (λ (a : CodeLine). (a.first ≤ 60000) × (a.count ≤ 32768) × (a.k ≤ 32768)) (sym line.code_line-at.ensures) (address-low x, x.few_lines, k), (l.loop-rest.invariant.0, (c.cut_code-words.ensures, c.argument_in-takes.ensures)))

test-line-requires : tie.Need-test_line-tests-requires invariant-loop-rest decreases-loop-rest
test-line-requires c κs = let s = c.requires in let x = s.1 in (not_code c.role_of-role.result c.in_default.in_default-own.keys2, ((x.blocks_named, x.few_blocks), s.0.1))

-- rows 4 and 5 are due as long as row 4 refuses nothing
names-due : (c : tie.In-loop-rest invariant-loop-rest decreases-loop-rest) (row : Row) → Due row (lines c.args.text.now) → kept_by row c.loop-rest.kept ≡ 0 → (row ≡ Name) ⊎ (row ≡ Price) → eqb c.loop-rest.kept.name 0 ≡ true
names-due c row d z =
    ⊎_elim (λ (e : row ≡ Name). eq-eqb c.loop-rest.kept.name 0 (subst (λ r. kept_by r c.loop-rest.kept ≡ 0) e z))
    (λ (e : row ≡ Price). let p = subst (λ r. Due r (lines c.args.text.now)) e d in none_kept (c.loop-rest.invariant.3 Name (p.0, p.1)) p.2)

-- what the tests of a line come to, and what is kept of the prices
tested : (c : tie.Joined-role invariant-loop-rest decreases-loop-rest) → PricesKept (list c.args.kinds.now) c.match-role.prices
    × ((row : Row) → Due row (lines c.args.text.now) → kept_by row c.loop-rest.kept ≡ 0 → tested_by row c.match-role.tests ≡ test row (lines c.args.text.now) c.role_of-role.result (line_with c.first_line-line.result.now c.line_ends-ended.result))
tested c =
    let ls = lines c.args.text.now in
    let l = line_with c.first_line-line.result.now c.line_ends-ended.result in
    ⊎_elim
    (λ w. (subst (PricesKept (list c.args.kinds.now)) (sym w.prices-is) w.test_code-tests.ensures.1, λ row d z. ap (tested_by row) w.tests-is ∙ code-tests-at ls c.first_line-line.result.now w.test_code-tests.result w.code_line-at.ensures (w.test_code-tests.ensures.0 ls) _ c.requires.1 row d (names-due c.before.before.before.before.before row d z) ∙ ap (λ o. test row ls o l) (sym w.in-Code.is)))
    (λ w. (subst (PricesKept (list c.args.kinds.now)) (sym w.prices-is) c.loop-rest.invariant.0, λ row d z. ap (tested_by row) w.tests-is ∙ w.test_line-tests.ensures row))
    c.match-role.branch-raw

add-keep : tie.Need-overflow_add-passed invariant-loop-rest decreases-loop-rest
add-keep c = let s = small c.before.before.before.before.before in omega arith

cast-keep : tie.Need-overflow_cast-passed invariant-loop-rest decreases-loop-rest
cast-keep c = let s = small c.before.before.before.before.before in omega arith

never : {A : Type 0} {r : Option ℕ} {n : ℕ} → r ≡ Some n → r ≡ None → A
never e f = let z : ◌≡◌ {A = ℕ} 0 1 = cc in absurd (omega arith)

returns : tie.Need-returns-then-kept-gt0 invariant-loop-rest decreases-loop-rest
returns c =
    let ls = lines c.args.text.now in
    let e : refused_line Layout ls ≡ Some c.keep-more.result.layout =
    keeps-done (c.loop-rest.invariant.3 Layout tt) c.loop-rest-test.true c.first_line-line.ensures c.line_ends-ended.ensures c.role_of-role.ensures ((tested c.before.before.before).1 Layout tt) (c.keep-more.ensures Layout) c.if-kept-gt0.true in
    λ row d. ⊎_elim (λ (q : row ≡ Layout). subst (λ r. refused_at (kept_by r c.keep-more.result) ≡ refused_line r ls) (sym q) (refused-some e c.if-kept-gt0.true)) (λ (q : refused_line Layout ls ≡ None). never e q) (due-after-layout row ls d)

after-line-requires : tie.Need-after_line-next-requires invariant-loop-rest decreases-loop-rest
after-line-requires c κs = ap length c.first_line-line.ensures

add-passed : tie.Need-overflow_add-passed-in-loop-rest invariant-loop-rest decreases-loop-rest
add-passed c = let s = small c.before.before.before.before.before.before.before.before.before.before in omega arith

loop-less : tie.Need-loop-rest-smaller invariant-loop-rest decreases-loop-rest
loop-less c = let k = c.after_line-next.ensures.1 in let h = c.loop-rest-test.true in omega arith

loop-again : tie.Need-loop-rest-preserved invariant-loop-rest decreases-loop-rest
loop-again c =
    let i = c.loop-rest.invariant in
    let t = tested c.before.before.before.before.before in
    let some = c.loop-rest-test.true in
    let short = c.after_line-next.ensures.1 in (
      t.0,
      subst (HeadingBefore (c.loop-rest.passed + 1)) (sym c.heading_after-heading.ensures) (heading-next _ _ _ i.1),
      (let z = i.2 in omega arith),
      λ row d. keeps-goes (i.3 row d) some c.first_line-line.ensures c.line_ends-ended.ensures c.role_of-role.ensures (t.1 row d) (c.keep-more.ensures row) _ c.after_line-next.ensures.0 short _ c.heading_after-heading.ensures,
    )

misses-requires : tie.Need-misses-whole-requires invariant-loop-rest decreases-loop-rest
misses-requires c κs = c.loop-rest.invariant.1

-- also where no line is left
ended : (c : tie.After-loop-rest invariant-loop-rest decreases-loop-rest) → c.loop-rest.passed ≤ 32768
ended c = let q = c.loop-rest.invariant.2 in let r = c.requires.0.0 in omega arith

add-keep-2 : tie.Need-overflow_add-passed-2 invariant-loop-rest decreases-loop-rest
add-keep-2 c = let s = ended c.before.before in omega arith

cast-keep-2 : tie.Need-overflow_cast-passed-2 invariant-loop-rest decreases-loop-rest
cast-keep-2 c = let s = ended c.before.before in omega arith

returns-2 : tie.Need-returns invariant-loop-rest decreases-loop-rest
returns-2 c = λ row d. keeps-ends (c.loop-rest.invariant.3 row d) c.loop-rest-test.false c.misses-whole.ensures (c.all_tests.ensures row) (c.keep.ensures row)

pub scan_spec : {M : Type 1} → statement M
scan_spec =
    tie.close
    (tie.spec
    invariant-loop-rest
    decreases-loop-rest
    (λ c κs. search rules)
    (λ c κs. search rules)
    (λ c κs. search rules)
    (λ c κs. search rules)
    (λ c κs. search rules)
    (λ c κs. search rules)
    (λ c κs. search rules)
    loop-holds
    (λ c κs. search rules)
    line-ends-requires
    role-of-requires
    (λ c. search rules)
    (λ c κs. search rules)
    slice-aggregate-cut-code
    cut-code-requires
    argument-in-requires
    test-code-requires
    test-line-requires
    add-keep
    cast-keep
    (λ c κs. search rules)
    returns
    (λ c κs. search rules)
    after-line-requires
    add-passed
    loop-less
    loop-again
    misses-requires
    (λ c κs. search rules)
    add-keep-2
    cast-keep-2
    (λ c κs. search rules)
    returns-2)
