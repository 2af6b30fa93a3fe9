-- `test_interrupts::tickbound_test_after` meets its contract. Assumes nothing.
use mathlib.Core.Path.{sym, ap, ◌∙◌}
use lib.ListN.{length}
use Rattle.file_format.specs.Routine.{read_run}
use Rattle.file_check.specs.HeldChecks.{read_by}
use Rattle.file_check.specs.declared.Reader.TheVariants.{Run}
use Rattle.answers.specs.Answers.{reported}
use Rattle.file_entry.proofs.EntryLaws.{accepted-passes, accepted-enough, check-refused, read-answers}
use borrow.Author.Rules.{rules}
use Rattle.test_interrupts.specs.Interrupts.{interrupted, interrupt_answer}
use Rattle.test_interrupts.proofs.InterruptLaws.{tells-refusal, tells-numbers}
use Rattle.test_interrupts.proofs.tickbound_test_after.Statement.{statement}
use Rattle.test_interrupts.proofs.tickbound_test_after.Tie as tie

enum_told : tie.Need-enum_told-1
enum_told c = search rules

routine-of-requires : tie.Need-routine_of-x-requires
routine-of-requires c κs =
    let k = c in
    accepted-passes Run 13 _ k.args.text.now (sym k.check-verdict.ensures ∙ c.in-Ok.is)

interrupted-requires : tie.Need-interrupted-numbers-requires
interrupted-requires c κs = c.routine_of-x.ensures.1

put-numbers-requires : tie.Need-put_numbers-requires
put-numbers-requires c κs =
    let k = c in
    let s = k in
    accepted-enough Run 13 (length s.args.out.now) s.args.text.now (sym k.check-verdict.ensures ∙ c.in-Ok.is)

returns : tie.Need-returns-in-Ok
unfolding interrupt_answer read_by
returns c =
    let b = c in
    let held = b.routine_of-x in
    let k = b in
    let s = k in
    let accepts = sym k.check-verdict.ensures ∙ b.in-Ok.is in
    let p = read-answers Run 13 (length s.args.out.now) s.args.text.now (λ x. reported (interrupted x s.args.n)) accepts held.result held.ensures.0 in
    tells-numbers _ s.args.out.now _ (p ∙ ap reported (sym b.interrupted-numbers.ensures)) _ b.put_numbers.ensures

returns-2 : tie.Need-returns-in-Err
unfolding interrupt_answer read_by
returns-2 c =
    let k = c in
    let s = k in
    let p = check-refused (λ x. reported (interrupted x s.args.n)) (read_run s.args.text.now) 13 (length s.args.out.now) _ (sym k.check-verdict.ensures ∙ c.in-Err.is) in
    tells-refusal _ s.args.out.now _ p _ c.number.ensures

pub tickbound_test_after_spec : {M : Type 1} → statement M
tickbound_test_after_spec =
    tie.close
    (tie.spec
    (λ c κs. search rules)
    enum_told
    routine-of-requires
    interrupted-requires
    put-numbers-requires
    (λ c. search rules)
    (λ c κs. search rules)
    (λ c. search rules)
    returns
    returns-2)
