-- `preview_entry::bound_copy` meets its contract.
use Rattle.std.proofs.lemmas.Result.{err_from_is_err_and}
use mathlib.Core.Path.{sym, ap, ◌∙◌}
use native.Mathlib.Omega.{arith}
use lib.ListN.{length}
use lib.Seq.{length-take-le}
use Rattle.answers.specs.Answers.{memory, answer_of}
use Rattle.answers.proofs.AnswerLaws.{gives-refusal}
use Rattle.preview_copy.proofs.PatchLaws.{told-copy, told-refusal}
use Rattle.preview_entry.proofs.PreviewLaws.{preview-copied, preview-refused}
use Rattle.preview_entry.proofs.bound_copy.Goals as goal

pub slice_bounds-patched-end : goal.slice_bounds-patched-end
slice_bounds-patched-end c =
    let t = told-copy _ _ (sym c.in_ok-n.was ∙ c.copy.ensures.value) _ _ c.copy.ensures.out_after in
    omega (arith, t.1)

pub slice_bounds-bound-end : goal.slice_bounds-bound-end
slice_bounds-bound-end c =
    let t = told-copy _ _ (sym c.in_ok-n.was ∙ c.copy.ensures.value) _ _ c.copy.ensures.out_after in
    sym (length-take-le _ _ t.1)

pub returns : goal.returns
returns c =
    let a = c.args in
    let t = told-copy _ _ (sym c.in_ok-n.was ∙ c.copy.ensures.value) _ _ c.copy.ensures.out_after in
    let e = sym (preview-copied a.text.now a.address a.instruction.now (length a.out.now) c.requires.2 _ t.0) in
    record { value = c.bound.ensures.value ∙ ap answer_of e; out_after = c.bound.ensures.out_after ∙ ap (λ z. memory z a.out.now) e }

pub returns-in_err-n : goal.returns-in_err-n
returns-in_err-n c =
    let p = err_from_is_err_and c.from_residual.result c.from_residual.ensures.1 in
    rw (p.1, p.2) (let all = let a = c.args in
    let t = told-refusal _ _ (sym c.in_err-n.was ∙ c.copy.ensures.value) in
    gives-refusal _ _ (preview-refused a.text.now a.address a.instruction.now (length a.out.now) c.requires.2 _ t) _ in record { value = all.0; out_after = all.1 })
