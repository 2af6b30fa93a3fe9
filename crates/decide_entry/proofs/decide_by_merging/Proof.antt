-- `decide_entry::decide_by_merging` meets its contract. Assumes nothing.
use Rattle.answers.proofs.AnswerLaws.{gives-report, gives-refusal}
use Rattle.file_entry.specs.Held.{routine_in}
use Rattle.decide_entry.proofs.FunctionLaws.{merging-decides, merging-refuses}
use borrow.Author.Rules.{rules}
use Rattle.decide_entry.proofs.decide_by_merging.Statement.{statement}
use Rattle.decide_entry.proofs.decide_by_merging.Tie as tie

put-decision-requires : tie.Need-put_decision-n-requires
put-decision-requires c κs =
    let s = c in
    let p = s.requires.0 in
    let x = c.swept-found in
    s.requires.1 _ (merging-decides (routine_in s.args.routine) s.args.refusal p.1 p.2 x.result x.ensures.0 c.in-Ok.is)

returns : tie.Need-returns-in-Ok
returns c =
    let s = c in
    let p = s.requires.0 in
    let x = c.swept-found in
    let d = c.put_decision-n.ensures in
    gives-report _ _ (merging-decides (routine_in s.args.routine) s.args.refusal p.1 p.2 x.result x.ensures.0 c.in-Ok.is) _ d.0 _ _ d.1

returns-2 : tie.Need-returns-in-Err
returns-2 c =
    let s = c in
    let p = s.requires.0 in
    let x = c.swept-found in
    gives-refusal _ _ (merging-refuses (routine_in s.args.routine) s.args.refusal p.1 p.2 x.result x.ensures.0 _ c.in-Err.is) _

pub decide_by_merging_spec : {M : Type 1} → statement M
decide_by_merging_spec =
    tie.close
    (tie.spec
    (λ c κs. search rules)
    (λ c. search rules)
    put-decision-requires
    (λ c. search rules)
    (λ c. search rules)
    returns
    returns-2)
