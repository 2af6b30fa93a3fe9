-- `merge_entry::merge` meets its contract.
use Rattle.std.proofs.lemmas.Result.{err_from_is_err_and}
use mathlib.Core.Path.{sym, ◌∙◌}
use lib.ListN.{length}
use Rattle.file_format.specs.Routine.{read_bound}
use Rattle.file_check.specs.HeldChecks.{read_by}
use Rattle.file_check.specs.declared.Reader.TheVariants.{Bound}
use Rattle.file_entry.proofs.EntryLaws.{accepted-passes, check-refuses, read-holds, read-gives}
use Rattle.report_theory.specs.Answers.{merge_routine, merge_answer}
use Rattle.merge_entry.proofs.FunctionLaws.{merge-printable, merge_keeps}
use Rattle.merge_entry.proofs.merge.Goals as goal

pub routine_of-routine-requires : goal.routine_of-routine-requires
routine_of-routine-requires c =
    accepted-passes Bound 128 _ c.args.text.now (sym c.check.ensures ∙ c.in_ok-check.was)

pub merge_routine-requires : goal.merge_routine-requires
unfolding read_by
merge_routine-requires c =
    let held = c.routine_of-routine in
    let accepts = sym c.check.ensures ∙ c.in_ok-check.was in
    let h = read-holds Bound 128 (length c.args.out.now) c.args.text.now merge_routine accepts held.result held.ensures.holds in
    record { limited = held.ensures.limited; printable = merge-printable c.args.text.now _ h.0 _ h.1 }

pub returns : goal.returns
unfolding merge_answer read_by
returns c =
    let held = c.routine_of-routine in
    let accepts = sym c.check.ensures ∙ c.in_ok-check.was in
    let all = merge_keeps c.args.text.now (length c.args.out.now) c.args.out.now _ _ (read-gives Bound 128 (length c.args.out.now) c.args.text.now merge_routine accepts held.result held.ensures.holds _ _ _ (c.merge_routine.ensures.value, c.merge_routine.ensures.out_after)) in record { value = all.0; out_after = all.1.0; safe = all.1.1.0; exact = all.1.1.1.0; monotone = all.1.1.1.1.0; known = all.1.1.1.1.1.0; above = all.1.1.1.1.1.1.0; listed = all.1.1.1.1.1.1.1 }

pub returns-in_err-check : goal.returns-in_err-check
unfolding merge_answer read_by
returns-in_err-check c =
    let p = err_from_is_err_and c.from_residual.result c.from_residual.ensures.1 in
    rw (p.1, p.2) (let all = merge_keeps c.args.text.now (length c.args.out.now) c.args.out.now _ _ (check-refuses merge_routine (read_bound c.args.text.now) 128 (length c.args.out.now) _ (sym c.check.ensures ∙ c.in_err-check.was) _) in record { value = all.0; out_after = all.1.0; safe = all.1.1.0; exact = all.1.1.1.0; monotone = all.1.1.1.1.0; known = all.1.1.1.1.1.0; above = all.1.1.1.1.1.1.0; listed = all.1.1.1.1.1.1.1 })
