-- `nearest_entry::nearest_routine` meets its contract.
use Prim.Native.Nat.{zero-le}
use mathlib.Core.Path.{sym, ap, ◌∙◌}
use native.Mathlib.Omega.{arith}
use Rattle.std.proofs.lemmas.Result.{err_from_is_err_and}
use Rattle.std.specs.Prelude.{Ok}
use Rattle.text.specs.Text.{bytes}
use Rattle.text_decimals.proofs.MemoryLaws.{wrote_none, wrote-more, wrote-start}
use Rattle.answers.proofs.AnswerLaws.{gives-report, gives-refusal}
use Rattle.nearest_search.specs.Held.{of_sought}
use Rattle.nearest_entry.proofs.FunctionLaws.{held-length, says-change, says_none, says-refused}
use Rattle.nearest_entry.proofs.nearest_routine.Goals as goal

pub sought-requires : goal.sought-requires
sought-requires c = c.requires.0

pub put_change-requires : goal.put_change-requires
put_change-requires c = omega (arith, held-length c.args.routine c.requires.0 _ (sym c.sought.ensures ∙ ap of_sought (c.in_ok-change.was ∙ ap Ok c.in-Some.is)), c.requires.1)

pub put-requires : goal.put-requires
put-requires c = omega (arith, c.requires.1)

pub returns-in-Some : goal.returns-in-Some
returns-in-Some c =
    let all = gives-report _ _ (says-change _ _ (sym c.sought.ensures ∙ ap of_sought (c.in_ok-change.was ∙ ap Ok c.in-Some.is))) _ c.put_change.ensures.value _ _ c.put_change.ensures.out_after in record { value = all.0; out_after = all.1 }

pub returns-in-None : goal.returns-in-None
returns-in-None c =
    let w = wrote-start (wrote-more (wrote_none c.args.out.now 0 zero-le) (bytes "NONE\n") (c.put.ensures.value, c.put.ensures.out_after)) in
    let all = gives-report _ _ (says_none _ (sym c.sought.ensures ∙ ap of_sought (c.in_ok-change.was ∙ ap Ok c.in-None.is))) _ w.0 _ _ w.1 in record { value = all.0; out_after = all.1 }

pub returns-in_err-change : goal.returns-in_err-change
returns-in_err-change c =
    let p = err_from_is_err_and c.from_residual.result c.from_residual.ensures.1 in
    rw (p.1, p.2) (let all = gives-refusal _ _ (says-refused _ _ (sym c.sought.ensures ∙ ap of_sought c.in_err-change.was)) _ in record { value = all.0; out_after = all.1 })
