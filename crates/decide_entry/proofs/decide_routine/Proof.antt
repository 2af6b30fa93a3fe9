-- `decide_entry::decide_routine` meets its contract. Assumes nothing.
use mathlib.Core.Path.{sym, ◌∙◌}
use Rattle.answers.proofs.AnswerLaws.{gives-report, gives-refusal}
use Rattle.file_entry.specs.Held.{routine_in}
use Rattle.decide_entry.proofs.FunctionLaws.{shown-refused, routine-first, routine-refused}
use borrow.Author.Rules.{rules}
use Rattle.decide_entry.proofs.decide_routine.Statement.{statement}
use Rattle.decide_entry.proofs.decide_routine.Tie as tie

put-decision-requires : tie.Need-put_decision-n-requires
put-decision-requires c κs =
    let s = c in
    let x = c.explored-found in
    s.requires.1 _ (routine-first (routine_in s.args.routine) x.result x.ensures.0 c.in-Ok.is)

decide-by-merging-requires : tie.Need-decide_by_merging-requires
decide-by-merging-requires c κs =
    let s = c in
    let x = c.explored-found in
    ((s.requires.0, shown-refused x.result _ x.ensures.0 _ c.in-Err.is, sym c.for_size.ensures ∙ c.if-for_size.true), s.requires.1)

returns : tie.Need-returns-in-Ok
returns c =
    let s = c in
    let x = c.explored-found in
    let d = c.put_decision-n.ensures in
    gives-report _ _ (routine-first (routine_in s.args.routine) x.result x.ensures.0 c.in-Ok.is) _ d.0 _ _ d.1

returns-2 : tie.Need-returns-then-for_size
returns-2 c = c.decide_by_merging.ensures

returns-3 : tie.Need-returns-else-for_size
returns-3 c =
    let s = c in
    let x = c.explored-found in
    gives-refusal _ _ (routine-refused (routine_in s.args.routine) x.result x.ensures.0 _ c.in-Err.is (sym c.for_size.ensures ∙ c.if-for_size.false)) _

pub decide_routine_spec : {M : Type 1} → statement M
decide_routine_spec =
    tie.close
    (tie.spec
    (λ c κs. search rules)
    (λ c. search rules)
    put-decision-requires
    (λ c. search rules)
    (λ c κs. search rules)
    decide-by-merging-requires
    (λ c. search rules)
    returns
    (λ c. search rules)
    returns-2
    returns-3)
