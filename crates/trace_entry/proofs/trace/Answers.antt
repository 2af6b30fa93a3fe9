-- `trace_entry::trace` meets its contract.
use Rattle.std.proofs.lemmas.Result.{err_from_is_err_and}
use mathlib.Core.Path.{sym, ◌∙◌}
use lib.ListN.{length}
use Rattle.file_format.specs.Routine.{read_run}
use Rattle.file_check.specs.HeldChecks.{read_by}
use Rattle.file_check.specs.declared.Reader.TheVariants.{Run}
use Rattle.file_entry.proofs.EntryLaws.{accepted-passes, check-refuses, read-holds, read-gives}
use Rattle.trace_entry.specs.Answers.{trace_routine, trace_answer}
use Rattle.trace_entry.proofs.FunctionLaws.{trace-roomy, trace-keeps}
use Rattle.trace_entry.proofs.trace.Goals as goal

pub routine_of-routine-requires : goal.routine_of-routine-requires
routine_of-routine-requires c =
    accepted-passes Run 32768 _ c.args.text.now (sym c.check.ensures ∙ c.in_ok-check.was)

pub trace_routine-requires : goal.trace_routine-requires
unfolding read_by
trace_routine-requires c =
    let held = c.routine_of-routine in
    let accepts = sym c.check.ensures ∙ c.in_ok-check.was in
    let h = read-holds Run 32768 (length c.args.out.now) c.args.text.now trace_routine accepts held.result held.ensures.holds in
    (held.ensures.limited, trace-roomy c.args.text.now _ h.0 _ h.1)

pub returns : goal.returns
unfolding trace_answer read_by
returns c =
    let held = c.routine_of-routine in
    let accepts = sym c.check.ensures ∙ c.in_ok-check.was in
    let all = trace-keeps c.args.text.now (length c.args.out.now) c.args.out.now _ _ (read-gives Run 32768 (length c.args.out.now) c.args.text.now trace_routine accepts held.result held.ensures.holds _ _ _ (c.trace_routine.ensures.value, c.trace_routine.ensures.out_after)) in record { value = all.0; out_after = all.1.0; traces = all.1.1 }

pub returns-in_err-check : goal.returns-in_err-check
unfolding trace_answer read_by
returns-in_err-check c =
    let p = err_from_is_err_and c.from_residual.result c.from_residual.ensures.1 in
    rw (p.1, p.2) (let all = trace-keeps c.args.text.now (length c.args.out.now) c.args.out.now _ _ (check-refuses trace_routine (read_run c.args.text.now) 32768 (length c.args.out.now) _ (sym c.check.ensures ∙ c.in_err-check.was) _) in record { value = all.0; out_after = all.1.0; traces = all.1.1 })
