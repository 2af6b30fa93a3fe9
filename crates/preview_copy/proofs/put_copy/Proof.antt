-- `preview_copy::put_copy` meets its contract. Assumes nothing.
use mathlib.Core.Path.{sym, ap}
use Prim.Native.Nat.{◌-◌}
use native.Mathlib.Omega.{arith}
use lib.ListN.{length}
use lib.Seq.{length-take-le}
use Rattle.answers.proofs.AnswerLaws.{gives-report, gives-refusal}
use Rattle.preview_copy.proofs.PatchLaws.{parts_are, copy-long, copy-short}
use borrow.Author.Rules.{rules}
use Rattle.preview_copy.proofs.put_copy.Statement.{statement}
use Rattle.preview_copy.proofs.put_copy.Tie as tie

after-line-requires : tie.Need-after_line-after-requires
after-line-requires c κs = ap length c.first_line-line.ensures

sub-if1 : tie.Need-overflow_sub-kept
sub-if1 c =
    let s = c in
    let q = parts_are s.args.text.now s.requires.0 s.args.k (s.requires.2, s.requires.3) _ _ _ _ c.after_lines-rest.ensures.0 c.first_line-line.ensures c.word_at-at.ensures c.after_line-after.ensures.0 in
    omega (arith, q.fits, s.requires.1)

returns : tie.Need-returns-then-kept-instruction
returns c =
    let d = c in
    let s = d in
    let q = parts_are s.args.text.now s.requires.0 s.args.k (s.requires.2, s.requires.3) _ _ _ _ d.after_lines-rest.ensures.0 d.first_line-line.ensures d.word_at-at.ensures d.after_line-after.ensures.0 in
    gives-refusal _ _ (copy-long q s.args.instruction.now (omega (arith, q.fits, s.requires.1, c.if-kept-instruction.true))) _

slice-aggregate-put-parts : tie.Need-slice_bounds-put_parts-end
slice-aggregate-put-parts c =
    let c1 = c in
    let s = c1 in
    sym (length-take-le _ s.args.text.now (omega arith))

put-parts-requires : tie.Need-put_parts-n-requires
put-parts-requires c κs =
    let d = c in
    let at-word-at = d in
    let at-first-line = at-word-at in
    let at-after-lines = at-first-line in
    let s = at-after-lines in
    let q = parts_are s.args.text.now s.requires.0 s.args.k (s.requires.2, s.requires.3) _ _ _ _ at-after-lines.after_lines-rest.ensures.0 at-first-line.first_line-line.ensures at-word-at.word_at-at.ensures d.after_line-after.ensures.0 in
    let t = length-take-le (length s.args.text.now - length at-after-lines.after_lines-rest.result.now) s.args.text.now (omega arith) in
    omega (arith, q.fits, s.requires.1, s.requires.4, c.if-kept-instruction.false)

returns-2 : tie.Need-returns
returns-2 c =
    let e = c in
    let at-if1 = e in
    let d = at-if1 in
    let at-word-at = d in
    let at-first-line = at-word-at in
    let at-after-lines = at-first-line in
    let s = at-after-lines in
    let q = parts_are s.args.text.now s.requires.0 s.args.k (s.requires.2, s.requires.3) _ _ _ _ at-after-lines.after_lines-rest.ensures.0 at-first-line.first_line-line.ensures at-word-at.word_at-at.ensures d.after_line-after.ensures.0 in
    gives-report _ _ (copy-short q s.args.instruction.now (omega (arith, q.fits, s.requires.1, at-if1.if-kept-instruction.false))) _ e.put_parts-n.ensures.0 _ _ e.put_parts-n.ensures.1

pub put_copy_spec : {M : Type 1} → statement M
put_copy_spec =
    tie.close
    (tie.spec
    (λ c κs. search rules)
    (λ c κs. search rules)
    (λ c κs. search rules)
    after-line-requires
    (λ c. search rules)
    (λ c. search rules)
    (λ c. search rules)
    (λ c. search rules)
    sub-if1
    returns
    slice-aggregate-put-parts
    put-parts-requires
    (λ c. search rules)
    returns-2)
