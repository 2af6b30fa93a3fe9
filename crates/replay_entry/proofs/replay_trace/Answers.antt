-- `replay_entry::replay_trace` meets its contract.
use Rattle.std.proofs.lemmas.Result.{err_from_is_err_and}
use mathlib.Core.Path.{sym, ◌∙◌}
use native.Mathlib.Omega.{arith}
use Rattle.answers.proofs.AnswerLaws.{gives-report, gives-refusal}
use Rattle.replay_entry.proofs.FunctionLaws.{lines-few, said-length, said, said-refused}
use Rattle.replay_entry.proofs.replay_trace.Goals as goal

pub followed-said-requires : goal.followed-said-requires
followed-said-requires c = (c.requires.0, lines-few _ (sym c.check_trace.ensures ∙ c.in_ok-check_trace.was))

pub put_outcome-requires : goal.put_outcome-requires
put_outcome-requires c =
    let e = sym c.check_trace.ensures ∙ c.in_ok-check_trace.was in
    let l = said-length _ e c.args.routine in
    let q = c.followed-said.ensures in
    rw q (omega (arith, l.1, c.requires.1))

pub returns : goal.returns
returns c =
    let at-followed = c in
    let at-enum-told = at-followed in
    let at-check-trace = at-enum-told in
    let start = at-check-trace in
    let e = sym at-check-trace.check_trace.ensures ∙ at-enum-told.in_ok-check_trace.was in
    let all = gives-report _ _ (said _ e start.args.routine at-followed.followed-said.result at-followed.followed-said.ensures) _ c.put_outcome.ensures.value _ _ c.put_outcome.ensures.out_after in record { value = all.0; out_after = all.1 }

pub returns-in_err-check_trace : goal.returns-in_err-check_trace
returns-in_err-check_trace c =
    let p = err_from_is_err_and c.from_residual.result c.from_residual.ensures.1 in
    rw (p.1, p.2) (let all = gives-refusal _ _ (said-refused _ _ _ (sym c.check_trace.ensures ∙ c.in_err-check_trace.was)) _ in record { value = all.0; out_after = all.1 })
