-- `trace_entry::trace_routine` meets its contract.
use Rattle.std.proofs.lemmas.Result.{err_from_is_err_and}
use Rattle.answers.proofs.AnswerLaws.{gives-report, gives-refusal}
use Rattle.file_entry.specs.Held.{routine_in}
use Rattle.trace_entry.proofs.FunctionLaws.{ran-traced, ran-refused}
use Rattle.trace_entry.proofs.trace_routine.Goals as goal

pub put_trace-requires : goal.put_trace-requires
put_trace-requires c =
    let x = c.ran-ran in
    (c.requires.0, c.requires.1 _ (ran-traced (routine_in c.args.routine) x.result x.ensures c.in_ok-ran.was))

pub returns : goal.returns
returns c =
    let x = c.ran-ran in
    let all = gives-report _ _ (ran-traced (routine_in c.args.routine) x.result x.ensures c.in_ok-ran.was) _ c.put_trace.ensures.value _ _ c.put_trace.ensures.out_after in record { value = all.0; out_after = all.1 }

pub returns-in_err-ran : goal.returns-in_err-ran
returns-in_err-ran c =
    let p = err_from_is_err_and c.from_residual.result c.from_residual.ensures.1 in
    rw (p.1, p.2) (let all = let x = c.ran-ran in
    gives-refusal _ _ (ran-refused (routine_in c.args.routine) x.result x.ensures _ c.in_err-ran.was) _ in record { value = all.0; out_after = all.1 })
