-- `words_entry::import` meets its contract.
use Rattle.std.proofs.lemmas.Result.{err_from_is_err_and}
use mathlib.Core.Path.{sym, ◌∙◌}
use native.Mathlib.Omega.{arith}
use lib.ListN.{length}
use Rattle.answers.proofs.AnswerLaws.{gives-report, gives-refusal}
use Rattle.words_entry.proofs.FunctionLaws.{import-short, import-refused, import-made}
use Rattle.words_entry.proofs.import.Goals as goal

pub returns-then-out-lt32768 : goal.returns-then-out-lt32768
returns-then-out-lt32768 c =
    let a = c.args in
    let all = gives-refusal _ _ (import-short a.words.now a.primitives.now (length a.out.now) c.if-out-lt32768.true) _ in record { value = all.0; out_after = all.1 }

pub put_import-requires : goal.put_import-requires
put_import-requires c =
    (sym c.check_import.ensures ∙ c.in_ok-check_import.was, omega (arith, c.if-out-lt32768.false))

pub returns : goal.returns
returns c =
    let a = c.args in
    let e = sym c.check_import.ensures ∙ c.in_ok-check_import.was in
    let all = gives-report _ _ (import-made a.words.now a.primitives.now (length a.out.now) c.if-out-lt32768.false e) _ c.put_import.ensures.value _ _ c.put_import.ensures.out_after in record { value = all.0; out_after = all.1 }

pub returns-in_err-check_import : goal.returns-in_err-check_import
returns-in_err-check_import c =
    let p = err_from_is_err_and c.from_residual.result c.from_residual.ensures.1 in
    rw (p.1, p.2) (let all = let a = c.args in
    let e = sym c.check_import.ensures ∙ c.in_err-check_import.was in
    gives-refusal _ _ (import-refused a.words.now a.primitives.now (length a.out.now) c.if-out-lt32768.false _ e) _ in record { value = all.0; out_after = all.1 })
