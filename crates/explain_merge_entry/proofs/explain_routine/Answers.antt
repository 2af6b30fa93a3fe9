-- `explain_merge_entry::explain_routine` meets its contract.
use Rattle.std.proofs.lemmas.Result.{err_from_is_err_and}
use mathlib.Core.Path.{refl}
use native.Mathlib.Omega.{arith}
use Rattle.text.specs.Text.{lines}
use Rattle.machine_state.specs.HeldProgram.{first_address_of}
use Rattle.machine_state.proofs.Stack.{length-images}
use Rattle.merge_theory.specs.Merge.{merged}
use Rattle.merge_origins.proofs.KeptLaws.{nothing-kept}
use Rattle.answers.proofs.AnswerLaws.{gives-report, gives-refusal}
use Rattle.file_entry.specs.Held.{routine_in}
use Rattle.routine_figures.proofs.FigureLaws.{swept-shareable}
use Rattle.explain_merge_entry.proofs.FunctionLaws.{kept-origins, routine-explained, routine-refused, shown-accepted}
use borrow.Author.Rules.{rules}
use Rattle.explain_merge_entry.proofs.explain_routine.Goals as goal

pub sweep-found-requires : goal.sweep-found-requires
sweep-found-requires c =
    let l = c.requires.0 in
    let at = l.placed in
    record {
      program = (l.program, l.formed, search (rules, length-images), l.numeric);
      code_bound = (omega arith, omega arith);
      goals = (refl, nothing-kept (first_address_of c.args.routine.code) 6156);
    }

pub put_explanation-requires : goal.put_explanation-requires
put_explanation-requires c =
    let x = c.args.routine in
    let ls = lines c.args.body.now in
    let p = c.requires.1 in
    let found = c.sweep-found in
    let told = c.in_ok-found.was in
    let (q, accepts) = shown-accepted ls (routine_in x) found.result (merged (routine_in x).code (routine_in x).start) found.ensures.shows told in (
      c.requires.0,
      p.positive,
      p.small,
      (swept-shareable found.result found.ensures.figures).cycles,
      p.fits _ (routine-explained ls (routine_in x) found.result found.ensures.shows told),
      found.auto.kept,
      kept-origins x _ ls _ p (found.ensures.keeps q accepts),
    )

pub returns : goal.returns
returns c =
    let found = c.sweep-found in
    let all = gives-report _ _ (routine-explained (lines c.args.body.now) (routine_in c.args.routine) found.result found.ensures.shows c.in_ok-found.was) _ c.put_explanation.ensures.value _ _ c.put_explanation.ensures.out_after in
    record { value = all.0; out_after = all.1 }

pub returns-in_err-found : goal.returns-in_err-found
returns-in_err-found c =
    let p = err_from_is_err_and c.from_residual.result c.from_residual.ensures.1 in
    let found = c.sweep-found in
    rw (p.1, p.2)
    (let all = gives-refusal _ _ (routine-refused (lines c.args.body.now) (routine_in c.args.routine) found.result found.ensures.shows _ c.in_err-found.was) _ in
    record { value = all.0; out_after = all.1 })
