-- `replay_entry::replay` meets its contract.
use Rattle.std.proofs.lemmas.Result.{err_from_is_err_and}
use mathlib.Core.Path.{sym, ◌∙◌}
use lib.ListN.{length}
use Rattle.file_format.specs.Routine.{read_run}
use Rattle.file_check.specs.HeldChecks.{read_by}
use Rattle.file_check.specs.declared.Reader.TheVariants.{Run}
use Rattle.file_entry.proofs.EntryLaws.{accepted-passes, check-refuses, read-holds, read-gives}
use Rattle.replay_entry.specs.Answers.{replay_routine, replay_answer}
use Rattle.replay_entry.proofs.Theorems.{told-kept}
use Rattle.replay_entry.proofs.replay.Goals as goal

pub routine_of-routine-requires : goal.routine_of-routine-requires
routine_of-routine-requires c =
    accepted-passes Run 128 _ c.args.text.now (sym c.check.ensures ∙ c.in_ok-check.was)

pub replay_trace-requires : goal.replay_trace-requires
unfolding read_by
replay_trace-requires c =
    let held = c.routine_of-routine in
    let accepts = sym c.check.ensures ∙ c.in_ok-check.was in
    let h = read-holds Run 128 (length c.args.out.now) c.args.text.now (replay_routine c.args.trace.now) accepts held.result held.ensures.holds in
    (held.ensures.limited, h.0)

pub returns : goal.returns
unfolding replay_answer replay_routine read_by
returns c =
    let held = c.routine_of-routine in
    let accepts = sym c.check.ensures ∙ c.in_ok-check.was in
    let all = told-kept c.args.text.now c.args.trace.now (length c.args.out.now) c.args.out.now _ _ (read-gives Run 128 (length c.args.out.now) c.args.text.now (replay_routine c.args.trace.now) accepts held.result held.ensures.holds _ _ _ (c.replay_trace.ensures.value, c.replay_trace.ensures.out_after)) in record { value = all.0; out_after = all.1.0; kept = all.1.1 }

pub returns-in_err-check : goal.returns-in_err-check
unfolding replay_answer read_by
returns-in_err-check c =
    let p = err_from_is_err_and c.from_residual.result c.from_residual.ensures.1 in
    rw (p.1, p.2) (let all = told-kept c.args.text.now c.args.trace.now (length c.args.out.now) c.args.out.now _ _ (check-refuses (replay_routine c.args.trace.now) (read_run c.args.text.now) 128 (length c.args.out.now) _ (sym c.check.ensures ∙ c.in_err-check.was) _) in record { value = all.0; out_after = all.1.0; kept = all.1.1 })
