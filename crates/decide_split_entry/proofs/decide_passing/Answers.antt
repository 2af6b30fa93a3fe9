-- `decide_split_entry::decide_passing` meets its contract.
use Rattle.std.proofs.lemmas.Result.{err_from_is_err_and}
use mathlib.Core.Path.{sym, ap, ◌∙◌}
use lib.ListN.{length}
use Rattle.text.specs.Text.{lines}
use Rattle.file_format.specs.Routine.{routine_of}
use Rattle.answers.specs.Answers.{memory, answer_of}
use Rattle.answers.proofs.AnswerLaws.{gives-refusal}
use Rattle.file_entry.proofs.EntryLaws.{holds-is}
use Rattle.split_cuts.proofs.PlaceLaws.{cuts-few}
use Rattle.split_entry.specs.Answers.{cuts_checked}
use Rattle.decide_split_entry.specs.Answers.{decide_cases}
use Rattle.decide_split_entry.proofs.FunctionLaws.{cuts-passed, cuts-refused, cases-roomy}
use Rattle.decide_split_entry.proofs.decide_passing.Goals as goal

pub decide_cases-requires : goal.decide_cases-requires
unfolding cuts_checked
decide_cases-requires c =
    let held = c.routine_of-routine in
    let is = holds-is (routine_of (lines c.args.text.now)) held.result held.ensures.holds in
    let passed = sym c.check.ensures ∙ c.in_ok-check.was in
    record {
      limited = (held.ensures.limited, cuts-few _ c.args.cuts.now passed);
      roomy = cases-roomy c.args.text.now _ c.requires.0.passes is c.args.cuts.now (length c.args.out.now) c.requires.1;
    }

pub returns : goal.returns
returns c =
    let held = c.routine_of-routine in
    let is = holds-is (routine_of (lines c.args.text.now)) held.result held.ensures.holds in
    let q = ap (decide_cases c.args.cuts.now) is ∙ sym (cuts-passed c.args.text.now c.args.cuts.now (routine_of (lines c.args.text.now)) (sym c.check.ensures ∙ c.in_ok-check.was)) in
    record { value = c.decide_cases.ensures.value ∙ ap answer_of q; out_after = c.decide_cases.ensures.out_after ∙ ap (λ a. memory a c.args.out.now) q }

pub returns-in_err-check : goal.returns-in_err-check
returns-in_err-check c =
    let p = err_from_is_err_and c.from_residual.result c.from_residual.ensures.1 in
    rw (p.1, p.2) (let all = gives-refusal _ _ (cuts-refused c.args.text.now c.args.cuts.now (routine_of (lines c.args.text.now)) _ (sym c.check.ensures ∙ c.in_err-check.was)) _ in record { value = all.0; out_after = all.1 })
