-- `explain_entry::explain_routine` meets its contract.
use Rattle.std.proofs.lemmas.Result.{err_from_is_err_and}
use Rattle.text.specs.Text.{lines}
use Rattle.answers.proofs.AnswerLaws.{gives-report, gives-refusal}
use Rattle.file_entry.specs.Held.{routine_in}
use Rattle.explain_entry.proofs.FunctionLaws.{routine-explained, routine-refused}
use Rattle.explain_entry.proofs.explain_routine.Goals as goal

pub put_explanation-requires : goal.put_explanation-requires
put_explanation-requires c =
    let p = c.requires.1 in
    let x = c.explored-found in
    (c.requires.0, p.positive, p.small, x.ensures.shareable.cycles, p.fits _ (routine-explained (lines c.args.body.now) (routine_in c.args.routine) x.result x.ensures.shows c.in_ok-found.was))

pub returns : goal.returns
returns c =
    let at-enum-told = c in
    let at-explored = at-enum-told in
    let s = at-explored in
    let x = at-explored.explored-found in
    let all = gives-report _ _ (routine-explained (lines s.args.body.now) (routine_in s.args.routine) x.result x.ensures.shows at-enum-told.in_ok-found.was) _ c.put_explanation.ensures.value _ _ c.put_explanation.ensures.out_after in record { value = all.0; out_after = all.1 }

pub returns-in_err-found : goal.returns-in_err-found
returns-in_err-found c =
    let p = err_from_is_err_and c.from_residual.result c.from_residual.ensures.1 in
    rw (p.1, p.2) (let all = let x = c.explored-found in
    gives-refusal _ _ (routine-refused (lines c.args.body.now) (routine_in c.args.routine) x.result x.ensures.shows _ c.in_err-found.was) _ in record { value = all.0; out_after = all.1 })
