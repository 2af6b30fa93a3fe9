-- `report::put_found` meets its contract.
use Rattle.std.proofs.lemmas.Result.{err_from_is_err_and}
use Rattle.answers.proofs.AnswerLaws.{gives-report, gives-refusal}
use Rattle.report.proofs.FoundLaws.{judged-accepted, judged-refused}
use Rattle.report.proofs.put_found.Goals as goal

pub put_bound-n-requires : goal.put_bound-n-requires
put_bound-n-requires c =
    let p = c.requires.printable in
    record { le_tick = (p.positive, p.small, c.requires.shareable.cycles); path_in_bounds = p.fits _ (judged-accepted c.args.tick c.args.found c.in_ok-found.was) }

pub returns : goal.returns
returns c =
    let all = gives-report _ _ (judged-accepted c.args.tick c.args.found c.in_ok-found.was) _ c.put_bound-n.ensures.value _ _ c.put_bound-n.ensures.out_after in record { value = all.0; out_after = all.1 }

pub returns-in_err-found : goal.returns-in_err-found
returns-in_err-found c =
    let p = err_from_is_err_and c.from_residual.result c.from_residual.ensures.1 in
    rw (p.1, p.2) (let all = gives-refusal _ _ (judged-refused c.args.tick c.args.found _ c.in_err-found.was) _ in record { value = all.0; out_after = all.1 })
