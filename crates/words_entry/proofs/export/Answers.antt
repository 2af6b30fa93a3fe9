-- `words_entry::export` meets its contract.
use Rattle.std.proofs.lemmas.Result.{err_from_is_err_and}
use mathlib.Core.Path.{sym, ◌∙◌}
use lib.ListN.{length}
use Rattle.text.specs.Text.{lines}
use Rattle.file_format.specs.Routine.{read_bound}
use Rattle.file_check.specs.HeldChecks.{read_by}
use Rattle.file_check.specs.declared.Reader.TheVariants.{Bound}
use Rattle.words.specs.Export.{export_bytes}
use Rattle.answers.specs.Answers.{reported}
use Rattle.answers.proofs.AnswerLaws.{gives-report}
use Rattle.file_entry.proofs.EntryLaws.{check-refuses, accepted-passes, accepted-enough, accepted-read}
use Rattle.words_entry.specs.Answers.{export_answer}
use Rattle.words_entry.proofs.FunctionLaws.{export-made}
use Rattle.words_entry.proofs.export.Goals as goal

pub put_export-requires : goal.put_export-requires
put_export-requires c =
    let accepts = sym c.check.ensures ∙ c.in_ok-check.was in
    (accepted-passes Bound 32768 _ c.args.text.now accepts, accepted-enough Bound 32768 _ c.args.text.now accepts)

pub returns : goal.returns
unfolding read_by
returns c =
    let text = c.args.text.now in
    let accepts = sym c.check.ensures ∙ c.in_ok-check.was in
    let all = gives-report _ _ (export-made text (length c.args.out.now) (accepted-enough Bound 32768 _ text accepts) _ (accepted-read Bound 32768 _ text accepts)) _ c.put_export.ensures.value _ _ c.put_export.ensures.out_after in record { value = all.0; out_after = all.1 }

pub returns-in_err-check : goal.returns-in_err-check
unfolding export_answer read_by
returns-in_err-check c =
    let p = err_from_is_err_and c.from_residual.result c.from_residual.ensures.1 in
    rw (p.1, p.2) (let all = let text = c.args.text.now in
    check-refuses (λ x. reported (export_bytes (lines text))) (read_bound text) 32768 (length c.args.out.now) _ (sym c.check.ensures ∙ c.in_err-check.was) _ in record { value = all.0; out_after = all.1 })
