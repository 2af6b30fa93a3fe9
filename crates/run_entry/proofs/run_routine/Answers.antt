-- `run_entry::run_routine` meets its contract.
use Rattle.std.proofs.lemmas.Result.{err_from_is_err_and}
use Rattle.report_theory.specs.Answers.{run_routine}
use Rattle.report.specs.Report.{run_text}
use Rattle.answers.proofs.AnswerLaws.{gives-report, gives-refusal}
use Rattle.run_entry.proofs.FunctionLaws.{ran-reported, ran-refused}
use Rattle.run_entry.proofs.run_routine.Goals as goal

pub put_run-requires : goal.put_run-requires
unfolding run_routine
put_run-requires c = c.requires.printable.fits _ (ran-reported run_text _ _ c.ran-ran.ensures c.in_ok-ran.was)

pub returns : goal.returns
unfolding run_routine
returns c = let all = gives-report _ _ (ran-reported run_text _ _ c.ran-ran.ensures c.in_ok-ran.was) _ c.put_run.ensures.value _ _ c.put_run.ensures.out_after in record { value = all.0; out_after = all.1 }

pub returns-in_err-ran : goal.returns-in_err-ran
unfolding run_routine
returns-in_err-ran c =
    let p = err_from_is_err_and c.from_residual.result c.from_residual.ensures.1 in
    rw (p.1, p.2) (let all = gives-refusal _ _ (ran-refused run_text _ _ c.ran-ran.ensures _ c.in_err-ran.was) _ in record { value = all.0; out_after = all.1 })
