-- `decide_split_entry::decide_cases` meets its contract.
use Rattle.std.proofs.lemmas.Result.{err_from_is_err_and}
use Rattle.answers.proofs.AnswerLaws.{gives-report, gives-refusal}
use Rattle.file_entry.specs.Held.{routine_in}
use Rattle.decide_split_entry.proofs.FunctionLaws.{cases-decide, cases-refuse}
use Rattle.decide_split_entry.proofs.decide_cases.Goals as goal

pub put_decision-requires : goal.put_decision-requires
put_decision-requires c =
    let x = c.bounded-found in
    c.requires.roomy _ (cases-decide c.args.cuts.now (routine_in c.args.routine) x.result x.ensures.shows c.in_ok-found.was)

pub returns : goal.returns
returns c =
    let x = c.bounded-found in
    let all = gives-report _ _ (cases-decide c.args.cuts.now (routine_in c.args.routine) x.result x.ensures.shows c.in_ok-found.was) _ c.put_decision.ensures.value _ _ c.put_decision.ensures.out_after in record { value = all.0; out_after = all.1 }

pub returns-in_err-found : goal.returns-in_err-found
returns-in_err-found c =
    let p = err_from_is_err_and c.from_residual.result c.from_residual.ensures.1 in
    rw (p.1, p.2) (let all = let x = c.bounded-found in
    gives-refusal _ _ (cases-refuse c.args.cuts.now (routine_in c.args.routine) x.result x.ensures.shows _ c.in_err-found.was) _ in record { value = all.0; out_after = all.1 })
