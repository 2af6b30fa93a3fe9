-- `nearest_entry::nearest` meets its contract.
use Rattle.std.proofs.lemmas.Result.{err_from_is_err_and}
use mathlib.Core.Path.{sym, ◌∙◌}
use lib.ListN.{length}
use Rattle.file_format.specs.Routine.{read_bound}
use Rattle.file_check.specs.HeldChecks.{read_by}
use Rattle.file_check.specs.declared.Reader.TheVariants.{Bound}
use Rattle.file_entry.proofs.EntryLaws.{accepted-passes, check-refuses, read-holds, read-gives}
use Rattle.nearest_entry.specs.Answers.{nearest_routine, nearest_answer}
use Rattle.nearest_entry.proofs.nearest.Goals as goal

pub routine_of-routine-requires : goal.routine_of-routine-requires
routine_of-routine-requires c =
    accepted-passes Bound 128 _ c.args.text.now (sym c.check.ensures ∙ c.in_ok-check.was)

pub nearest_routine-requires : goal.nearest_routine-requires
unfolding read_by
nearest_routine-requires c =
    let held = c.routine_of-routine in
    let accepts = sym c.check.ensures ∙ c.in_ok-check.was in
    let h = read-holds Bound 128 (length c.args.out.now) c.args.text.now nearest_routine accepts held.result held.ensures.holds in
    (held.ensures.limited, h.0)

pub returns : goal.returns
unfolding nearest_answer nearest_routine read_by
returns c =
    let held = c.routine_of-routine in
    let accepts = sym c.check.ensures ∙ c.in_ok-check.was in
    let all = read-gives Bound 128 (length c.args.out.now) c.args.text.now nearest_routine accepts held.result held.ensures.holds _ _ _ (c.nearest_routine.ensures.value, c.nearest_routine.ensures.out_after) in record { value = all.0; out_after = all.1 }

pub returns-in_err-check : goal.returns-in_err-check
unfolding nearest_answer read_by
returns-in_err-check c =
    let p = err_from_is_err_and c.from_residual.result c.from_residual.ensures.1 in
    rw (p.1, p.2) (let all = check-refuses nearest_routine (read_bound c.args.text.now) 128 (length c.args.out.now) _ (sym c.check.ensures ∙ c.in_err-check.was) _ in record { value = all.0; out_after = all.1 })
