-- `preview_entry::preview` meets its contract.
use Rattle.std.proofs.lemmas.Result.{err_from_is_err_and}
use mathlib.Core.Path.{sym, ◌∙◌}
use mathlib.Core.Bool.{cond}
use lib.ListN.{length}
use Rattle.refusals.specs.declared.Refusal.TheVariants.{BadName}
use Rattle.text.specs.Text.{lines}
use Rattle.file_format.specs.Routine.{read_bound}
use Rattle.file_format.proofs.RowLaws.{read-passes}
use Rattle.file_check.specs.HeldChecks.{read_by}
use Rattle.file_check.specs.declared.Reader.TheVariants.{Bound}
use Rattle.answers.specs.Answers.{refused}
use Rattle.file_entry.proofs.EntryLaws.{check-refuses, accepted-enough, accepted-read}
use Rattle.preview_copy.specs.Patch.{in_code, patched}
use Rattle.report_theory.specs.Answers.{bound_answer}
use Rattle.preview_entry.specs.Answers.{preview_answer}
use Rattle.preview_entry.proofs.preview.Goals as goal

pub bound_copy-requires : goal.bound_copy-requires
unfolding read_by
bound_copy-requires c =
    let text = c.args.text.now in
    let accepts = sym c.check.ensures ∙ c.in_ok-check.was in
    let r = read-passes text _ (accepted-read Bound 128 _ text accepts) in
    (r.0, r.2, accepted-enough Bound 128 _ text accepts)

pub returns : goal.returns
returns c = record { value = c.bound_copy.ensures.value; out_after = c.bound_copy.ensures.out_after }

pub returns-in_err-check : goal.returns-in_err-check
unfolding preview_answer read_by
returns-in_err-check c =
    let p = err_from_is_err_and c.from_residual.result c.from_residual.ensures.1 in
    rw (p.1, p.2) (let all = let text = c.args.text.now in
    let n = length c.args.out.now in
    check-refuses (λ x. cond (in_code x.code c.args.address) (bound_answer (patched (lines text) c.args.address c.args.instruction.now) n) (refused (BadName c.args.address)))
    (read_bound text) 128 n _ (sym c.check.ensures ∙ c.in_err-check.was) _ in record { value = all.0; out_after = all.1 })
