-- `split_entry::split` meets its contract.
use Rattle.std.proofs.lemmas.Result.{err_from_is_err_and}
use mathlib.Core.Path.{sym, ap, ◌∙◌}
use lib.ListN.{length}
use Rattle.file_format.specs.Routine.{read_bound}
use Rattle.file_check.specs.HeldChecks.{read_by}
use Rattle.file_check.specs.declared.Reader.TheVariants.{Bound}
use Rattle.answers.specs.Answers.{memory, answer_of}
use Rattle.file_entry.proofs.EntryLaws.{accepted-passes, accepted-enough, accepted-read, check-refuses}
use Rattle.split_entry.specs.Answers.{split_routine, split_answer}
use Rattle.split_entry.proofs.FunctionLaws.{split-passed}
use Rattle.split_entry.proofs.KeepLaws.{split-keeps}
use Rattle.split_entry.proofs.split.Goals as goal

pub split_passing-requires : goal.split_passing-requires
unfolding read_by
split_passing-requires c =
    let text = c.args.text.now in
    let accepts = sym c.check.ensures ∙ c.in_ok-check.was in
    (record { passes = accepted-passes Bound 128 _ text accepts; reads = accepted-read Bound 128 _ text accepts }, accepted-enough Bound 128 _ text accepts)

pub returns : goal.returns
unfolding read_by
returns c =
    let a = c.args in
    let accepts = sym c.check.ensures ∙ c.in_ok-check.was in
    let q = sym (split-passed a.text.now a.cuts.now (length a.out.now) (accepted-enough Bound 128 _ a.text.now accepts) _ (accepted-read Bound 128 _ a.text.now accepts)) in
    let all = split-keeps _ _ _ _ _ _ (c.split_passing.ensures.value ∙ ap answer_of q, c.split_passing.ensures.out_after ∙ ap (λ x. memory x a.out.now) q) in
    record { value = all.0; out_after = all.1.0; safe = all.1.1.0; exact = all.1.1.1.0; below = all.1.1.1.1.0; more = all.1.1.1.1.1.0; monotone = all.1.1.1.1.1.1.0; listed = all.1.1.1.1.1.1.1 }

pub returns-in_err-check : goal.returns-in_err-check
unfolding split_answer read_by
returns-in_err-check c =
    let p = err_from_is_err_and c.from_residual.result c.from_residual.ensures.1 in
    rw (p.1, p.2) (let all = let a = c.args in
    split-keeps a.text.now a.cuts.now (length a.out.now) a.out.now _ _ (check-refuses (split_routine a.text.now a.cuts.now) (read_bound a.text.now) 128 (length a.out.now) _ (sym c.check.ensures ∙ c.in_err-check.was) _) in record { value = all.0; out_after = all.1.0; safe = all.1.1.0; exact = all.1.1.1.0; below = all.1.1.1.1.0; more = all.1.1.1.1.1.0; monotone = all.1.1.1.1.1.1.0; listed = all.1.1.1.1.1.1.1 })
