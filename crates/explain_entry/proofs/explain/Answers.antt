-- `explain_entry::explain` meets its contract.
use Rattle.std.proofs.lemmas.Result.{err_from_is_err_and}
use mathlib.Core.Path.{sym, ap, ◌∙◌}
use lib.ListN.{length}
use Rattle.text.specs.Text.{lines}
use Rattle.file_format.specs.Layout.{body}
use Rattle.file_format.specs.Routine.{read_bound}
use Rattle.file_check.specs.HeldChecks.{read_by}
use Rattle.file_check.specs.declared.Reader.TheVariants.{Bound}
use Rattle.answers.specs.Answers.{memory, answer_of}
use Rattle.file_entry.proofs.EntryLaws.{accepted-passes, check-refuses, read-holds}
use Rattle.explain_entry.specs.Answers.{explain_routine, explain_answer}
use Rattle.explain_entry.proofs.FunctionLaws.{explain-passed, explain-printable}
use Rattle.explain_entry.proofs.explain.Goals as goal

pub routine_of-routine-requires : goal.routine_of-routine-requires
routine_of-routine-requires c =
    accepted-passes Bound 65536 _ c.args.text.now (sym c.check.ensures ∙ c.in_ok-check.was)

pub explain_routine-requires : goal.explain_routine-requires
unfolding read_by
explain_routine-requires c =
    let text = c.args.text.now in
    let held = c.routine_of-routine in
    let accepts = sym c.check.ensures ∙ c.in_ok-check.was in
    let h = read-holds Bound 65536 (length c.args.out.now) text (explain_routine (body (lines text))) accepts held.result held.ensures.holds in
    (held.ensures.limited, explain-printable text (length c.args.out.now) h.0 _ c.body_of-body.ensures held.result h.1)

pub returns : goal.returns
unfolding read_by
returns c =
    let held = c.routine_of-routine in
    let text = c.args.text.now in
    let out = c.args.out.now in
    let accepts = sym c.check.ensures ∙ c.in_ok-check.was in
    let h = read-holds Bound 65536 (length out) text (explain_routine (body (lines text))) accepts held.result held.ensures.holds in
    let q = sym (explain-passed text (length out) h.0 _ c.body_of-body.ensures _ h.1) in
    record { value = c.explain_routine.ensures.value ∙ ap answer_of q; out_after = c.explain_routine.ensures.out_after ∙ ap (λ a. memory a out) q }

pub returns-in_err-check : goal.returns-in_err-check
unfolding explain_answer read_by
returns-in_err-check c =
    let p = err_from_is_err_and c.from_residual.result c.from_residual.ensures.1 in
    rw (p.1, p.2) (let all = let text = c.args.text.now in
    check-refuses (explain_routine (body (lines text))) (read_bound text) 65536 (length c.args.out.now) _ (sym c.check.ensures ∙ c.in_err-check.was) _ in record { value = all.0; out_after = all.1 })
