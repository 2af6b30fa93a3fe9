-- `file_check::check_rows` meets its contract: a row is due where those before it refuse no line. Assumes nothing.
use Rattle.std.specs.Prelude.{None}
use mathlib.Core.Path.{◌≡◌}
use Rattle.text.specs.Text.{lines}
use Rattle.file_format.specs.declared.Row.TheVariants.{Layout, Range, Name, Price, Target, Forward, Known}
use Rattle.file_format.specs.Rows.{refused_line, Passes}
use Rattle.file_check.proofs.LoopLaws.{some-refused, none-refused}
use Rattle.file_check.proofs.CheckLaws.{check-layout, check-range, check-name, check-price, check-target, check-forward, check-bound, check-known, check-run}
use borrow.Author.Rules.{rules}
use Rattle.file_check.proofs.check_rows.Statement.{statement}
use Rattle.file_check.proofs.check_rows.Tie as tie

-- the rows that refuse no line

row-layout : (c : tie.Else-refused-gt0) → refused_line Layout (lines c.args.text.now) ≡ None
row-layout c = none-refused (c.scan-refused.ensures Layout tt) c.if-refused-gt0.false

row-range : (c : tie.Else-refused-gt0-2) → refused_line Range (lines c.args.text.now) ≡ None
row-range c = none-refused (c.scan-refused.ensures Range (row-layout c.before.before)) c.if-refused-gt0-2.false

row-name : (c : tie.Else-refused-gt0-3) → refused_line Name (lines c.args.text.now) ≡ None
row-name c = none-refused (c.scan-refused.ensures Name (row-layout c.before.before.before.before, row-range c.before.before)) c.if-refused-gt0-3.false

row-price : (c : tie.Else-refused-gt0-4) → refused_line Price (lines c.args.text.now) ≡ None
row-price c = none-refused (c.scan-refused.ensures Price (row-layout c.before.before.before.before.before.before, row-range c.before.before.before.before, row-name c.before.before)) c.if-refused-gt0-4.false

row_target : (c : tie.Else-refused-gt0-5) → refused_line Target (lines c.args.text.now) ≡ None
row_target c = none-refused (c.scan-refused.ensures Target (row-layout c.before.before.before.before.before.before.before.before, row-range c.before.before.before.before.before.before, row-name c.before.before.before.before, row-price c.before.before)) c.if-refused-gt0-5.false

row-forward : (c : tie.Else-refused-gt0-6) → refused_line Forward (lines c.args.text.now) ≡ None
row-forward c = none-refused (c.scan-refused.ensures Forward (row-layout c.before.before.before.before.before.before.before.before.before.before, row-range c.before.before.before.before.before.before.before.before, row-name c.before.before.before.before.before.before, row-price c.before.before.before.before, row_target c.before.before)) c.if-refused-gt0-6.false

passes : (c : tie.Else-refused-gt0-6) → Passes (lines c.args.text.now)
passes c = record { layout = row-layout c.before.before.before.before.before.before.before.before.before.before; range = row-range c.before.before.before.before.before.before.before.before; names = row-name c.before.before.before.before.before.before; prices = row-price c.before.before.before.before; targets = row_target c.before.before; forward = row-forward c }

returns : tie.Need-returns-then-refused-gt0
returns c = check-layout _ _ c.requires.0 _ (some-refused (c.scan-refused.ensures Layout tt) c.if-refused-gt0.true)

returns-2 : tie.Need-returns-then-refused-gt0-2
returns-2 c = check-range _ _ c.requires.0 _ (row-layout c.before.before) (some-refused (c.scan-refused.ensures Range (row-layout c.before.before)) c.if-refused-gt0-2.true)

returns-3 : tie.Need-returns-then-refused-gt0-3
returns-3 c = let a = row-layout c.before.before.before.before in let b = row-range c.before.before in check-name _ _ c.requires.0 _ a b (some-refused (c.scan-refused.ensures Name (a, b)) c.if-refused-gt0-3.true)

returns-4 : tie.Need-returns-then-refused-gt0-4
returns-4 c = let a = row-layout c.before.before.before.before.before.before in let b = row-range c.before.before.before.before in let n = row-name c.before.before in check-price _ _ c.requires.0 _ a b n (some-refused (c.scan-refused.ensures Price (a, b, n)) c.if-refused-gt0-4.true)

returns-5 : tie.Need-returns-then-refused-gt0-5
returns-5 c =
    let a = row-layout c.before.before.before.before.before.before.before.before in
    let b = row-range c.before.before.before.before.before.before in
    let n = row-name c.before.before.before.before in
    let p = row-price c.before.before in
    check-target _ _ c.requires.0 _ a b n p (some-refused (c.scan-refused.ensures Target (a, b, n, p)) c.if-refused-gt0-5.true)

returns-6 : tie.Need-returns-then-refused-gt0-6
returns-6 c =
    let a = row-layout c.before.before.before.before.before.before.before.before.before.before in
    let b = row-range c.before.before.before.before.before.before.before.before in
    let n = row-name c.before.before.before.before.before.before in
    let p = row-price c.before.before.before.before in
    let t = row_target c.before.before in
    check-forward _ _ c.requires.0 _ a b n p t (some-refused (c.scan-refused.ensures Forward (a, b, n, p, t)) c.if-refused-gt0-6.true)

returns-7 : tie.Need-returns-in_default
returns-7 c = check-bound _ _ c.in_default.is c.requires.0 (passes c.before)

returns-8 : tie.Need-returns-then-refused-gt0-7
returns-8 c = check-known _ _ c.in-Run.is c.requires.0 (passes c.before.before.before) _ (some-refused (c.scan-refused.ensures Known (passes c.before.before.before)) c.if-refused-gt0-7.true)

returns-9 : tie.Need-returns
returns-9 c = check-run _ _ c.in-Run.is c.requires.0 (passes c.before.before.before) (none-refused (c.scan-refused.ensures Known (passes c.before.before.before)) c.if-refused-gt0-7.false)

pub check_rows_spec : {M : Type 1} → statement M
check_rows_spec =
    tie.close
    (tie.spec
    (λ c κs. search rules)
    returns
    returns-2
    returns-3
    returns-4
    returns-5
    returns-6
    (λ c. search rules)
    (λ c. search rules)
    returns-7
    returns-8
    returns-9)
