-- `file_layout::count_code` meets its contract. The loop's invariant: the code lines of the body are the n lines passed and those of what is
-- left up to a line ANSWER. The measure is the length of what is left. Assumes nothing.
use Prim.Native.Nat.{◌+◌, ◌<◌, ◌≤◌}
use mathlib.Core.Path.{◌≡◌, sym, ap, ◌∙◌}
use native.Mathlib.Omega.{arith}
use lib.ListN.{length}
use borrow.Author.Rules.{rules}
use Rattle.text.specs.Text.{lines}
use Rattle.file_format.specs.Layout.{up_to_answer, lines_of_code}
use Rattle.file_format.proofs.CodeLineLaws.{code-none, code-first, code-answer, code-next, code-end}
use Rattle.file_layout.proofs.count_code.Statement.{statement}
use Rattle.file_layout.proofs.count_code.Tie as tie

abbrev invariant-loop-rest : tie.invariant-loop-rest
invariant-loop-rest body rest₀ n₀ rest n = (n + length rest ≤ length body) × (length (lines_of_code (lines body)) ≡ n + length (up_to_answer (lines rest)))

abbrev decreases-loop-rest : tie.decreases-loop-rest
decreases-loop-rest body rest₀ n₀ rest n = length rest

returns : tie.Need-returns-then-body-eq0 invariant-loop-rest decreases-loop-rest
returns c = sym (code-none _ c.if-body-eq0.true)

loop-holds : tie.Need-loop-rest-init invariant-loop-rest decreases-loop-rest
loop-holds c =
    let body = c.args.body.now in
    let h : 0 < length body = omega arith in
    let e = code-first body (lines c.next_lines-rest.result.now) h c.next_lines-rest.ensures.0 in
    (omega arith, omega arith)

returns-2 : tie.Need-returns-then-same invariant-loop-rest decreases-loop-rest
returns-2 c =
    let l = c in
    let e = code-answer l.loop-rest.rest.now c.first_line-line.result.now c.loop-rest-test.true c.first_line-line.ensures (sym c.same.ensures ∙ c.if-same.true) in
    omega arith

after-line-requires : tie.Need-after_line-next-requires invariant-loop-rest decreases-loop-rest
after-line-requires c κs = ap length c.first_line-line.ensures

loop-again : tie.Need-loop-rest-preserved invariant-loop-rest decreases-loop-rest
loop-again c =
    let l = c in
    let f = c.first_line-line in
    let e =
    code-next l.loop-rest.rest.now f.result.now c.loop-rest-test.true f.ensures
    (lines c.after_line-next.result.now) c.after_line-next.ensures.0 (sym c.same.ensures ∙ c.if-same.false) in
    (omega arith, omega arith)

returns-3 : tie.Need-returns invariant-loop-rest decreases-loop-rest
returns-3 c =
    let l = c in
    let z : length l.loop-rest.rest.now ≡ 0 = omega arith in
    let e = code-end l.loop-rest.rest.now z in
    omega arith

pub count_code_spec : {M : Type 1} → statement M
count_code_spec =
    tie.close
    (tie.spec
    invariant-loop-rest
    decreases-loop-rest
    returns
    (λ c κs. search rules)
    loop-holds
    (λ c κs. search rules)
    (λ c κs. search rules)
    returns-2
    after-line-requires
    (λ c. search rules)
    (λ c. search rules)
    loop-again
    returns-3)
