-- `decide_split_entry::decide_split` meets its contract.
use Rattle.std.proofs.lemmas.Result.{err_from_is_err_and}
use mathlib.Core.Path.{sym, ap, ◌∙◌}
use lib.ListN.{length}
use Rattle.file_format.specs.Routine.{read_bound}
use Rattle.file_check.specs.HeldChecks.{read_by}
use Rattle.file_check.specs.declared.Reader.TheVariants.{Bound}
use Rattle.answers.specs.Answers.{memory, answer_of}
use Rattle.file_entry.proofs.EntryLaws.{accepted-passes, accepted-enough, accepted-read, check-refuses}
use Rattle.decide_split_entry.specs.Answers.{decide_split_routine, decide_split_answer}
use Rattle.decide_split_entry.proofs.FunctionLaws.{decide-split-passed}
use Rattle.decide_split_entry.proofs.KeepLaws.{decide-split-keeps}
use Rattle.decide_split_entry.proofs.decide_split.Goals as goal

pub decide_passing-requires : goal.decide_passing-requires
unfolding read_by
decide_passing-requires c =
    let text = c.args.text.now in
    let accepts = sym c.check.ensures ∙ c.in_ok-check.was in
    (record { passes = accepted-passes Bound 128 _ text accepts; reads = accepted-read Bound 128 _ text accepts }, accepted-enough Bound 128 _ text accepts)

pub returns : goal.returns
unfolding read_by
returns c =
    let a = c.args in
    let accepts = sym c.check.ensures ∙ c.in_ok-check.was in
    let q = sym (decide-split-passed a.text.now a.cuts.now (length a.out.now) (accepted-enough Bound 128 _ a.text.now accepts) _ (accepted-read Bound 128 _ a.text.now accepts)) in
    let all = decide-split-keeps _ _ _ _ _ _ (c.decide_passing.ensures.value ∙ ap answer_of q, c.decide_passing.ensures.out_after ∙ ap (λ x. memory x a.out.now) q) in
    record { value = all.0; out_after = all.1.0; keeps = all.1.1.0; undecided = all.1.1.1 }

pub returns-in_err-check : goal.returns-in_err-check
unfolding decide_split_answer read_by
returns-in_err-check c =
    let p = err_from_is_err_and c.from_residual.result c.from_residual.ensures.1 in
    rw (p.1, p.2) (let all = let a = c.args in
    decide-split-keeps a.text.now a.cuts.now (length a.out.now) a.out.now _ _ (check-refuses (decide_split_routine a.text.now a.cuts.now) (read_bound a.text.now) 128 (length a.out.now) _ (sym c.check.ensures ∙ c.in_err-check.was) _) in record { value = all.0; out_after = all.1.0; keeps = all.1.1.0; undecided = all.1.1.1 })
