-- `preview_copy::copy` meets its contract. Assumes nothing.
use mathlib.Core.Path.{ap, sym, ◌∙◌}
use native.Mathlib.Omega.{arith}
use Rattle.answers.specs.Answers.{memory, answer_of}
use Rattle.answers.proofs.AnswerLaws.{gives-refusal}
use Rattle.preview_copy.proofs.PatchLaws.{copy-below, copy-above, copy-inside}
use borrow.Author.Rules.{rules}
use Rattle.preview_copy.proofs.copy.Statement.{statement}
use Rattle.preview_copy.proofs.copy.Tie as tie

returns : tie.Need-returns-then-place-first
returns c =
    let d = c in
    let s = d in
    gives-refusal _ _ (copy-below s.args.text.now s.requires.0 s.requires.1 s.args.address s.args.instruction.now _ d.body_of-body.ensures _ _ d.before.first_address-first.ensures d.count_code-count.ensures (omega (arith, c.if-place-first.true))) _

returns-2 : tie.Need-returns-then-count-place
returns-2 c =
    let d = c in
    let s = d in
    gives-refusal _ _ (copy-above s.args.text.now s.requires.0 s.requires.1 s.args.address s.args.instruction.now _ d.body_of-body.ensures _ _ d.before.first_address-first.ensures d.count_code-count.ensures (omega (arith, c.if-place-first.false)) (omega (arith, c.if-count-place.true))) _

put-copy-requires : tie.Need-put_copy-requires
put-copy-requires c κs =
    let d = c in
    let s = d in
    let i = copy-inside s.args.text.now s.requires.0 s.requires.1 s.args.address s.args.instruction.now _ d.body_of-body.ensures _ _ d.before.first_address-first.ensures d.count_code-count.ensures (omega (arith, c.if-place-first.false)) (omega (arith, c.if-count-place.false)) in
    (s.requires.0, s.requires.1, i.0.0, i.0.1, s.requires.2)

returns-3 : tie.Need-returns
returns-3 c =
    let e = c in
    let at-if2 = e in
    let at-if1 = at-if2 in
    let d = at-if1 in
    let at-first-address = d in
    let at-body-of = at-first-address in
    let s = at-body-of in
    let i = copy-inside s.args.text.now s.requires.0 s.requires.1 s.args.address s.args.instruction.now _ at-body-of.body_of-body.ensures _ _ at-first-address.first_address-first.ensures d.count_code-count.ensures (omega (arith, at-if1.if-place-first.false)) (omega (arith, at-if2.if-count-place.false)) in
    (e.put_copy.ensures.0 ∙ ap answer_of (sym i.1), e.put_copy.ensures.1 ∙ ap (λ a. memory a s.args.out.now) (sym i.1))

pub copy_spec : {M : Type 1} → statement M
copy_spec =
    tie.close
    (tie.spec
    (λ c κs. search rules)
    (λ c κs. search rules)
    (λ c κs. search rules)
    returns
    returns-2
    (λ c. search rules)
    put-copy-requires
    (λ c. search rules)
    returns-3)
