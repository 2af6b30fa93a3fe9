-- `file_parts::answers_of` meets its contract. The loop's invariant: the first n places hold the answers of the first n lines, and the other
-- lines are those of what is left. The measure is the length of what is left. Assumes nothing.
use Prim.Native.Nat.{ℕ, ◌<◌, ◌≤◌}
use mathlib.Core.Path.{◌≡◌, refl, ap₂, ◌∙◌}
use mathlib.Core.List.{List, map}
use native.Mathlib.Omega.{arith}
use mir.Syntax.{w32}
use mir.ValLaws.{to_z-of_z}
use lib.IntN.{ℤ}
use lib.ListN.{length, take, drop, length-set, length-map}
use lib.Seq.{take_all}
use Rattle.text.specs.Text.{Line, no_line, lines}
use Rattle.text.proofs.LineLaws.{lines-some}
use Rattle.numbers.specs.declared.Range.{Range}
use Rattle.numbers.specs.Numbers.{numbers}
use Rattle.file_format.specs.Rows.{value}
use Rattle.file_format.specs.Routine.{inside}
use Rattle.file_parts.proofs.FillLaws.{fill_more, line-left, line-next, line-end, line-is}
use Rattle.file_parts.proofs.WordLaws.{numbers_fit}
use borrow.Author.Rules.{rules}
use Rattle.file_parts.proofs.answers_of.Statement.{statement}
use Rattle.file_parts.proofs.answers_of.Tie as tie

abbrev answer : Line → ℤ
answer l = inside numbers (value l.text)

abbrev invariant-loop-rest : tie.invariant-loop-rest
invariant-loop-rest text values₀ rest₀ n₀ values rest n =
    (n ≤ 64) × (length values ≡ 64) × (lines rest ≡ drop n (lines text)) × (take n values ≡ take n (map answer (lines text))) × (length rest ≤ length text)

abbrev decreases-loop-rest : tie.decreases-loop-rest
decreases-loop-rest text values₀ rest₀ n₀ values rest n = length rest

-- another line is left
below : (c : tie.In-loop-rest invariant-loop-rest decreases-loop-rest) → c.loop-rest.n < length (lines c.args.text.now)
below c =
    let l = c.loop-rest in
    line-left (lines c.args.text.now) (lines l.rest.now) l.n l.invariant.2 (lines-some l.rest.now c.loop-rest-test.true)

loop-holds : tie.Need-loop-rest-init invariant-loop-rest decreases-loop-rest
loop-holds c = (omega arith, refl, refl, refl, omega arith)

number-of-requires : tie.Need-number_of-v-requires invariant-loop-rest decreases-loop-rest
number-of-requires c κs = numbers_fit _ c.number_range.ensures

array-set-from-values : tie.Need-bounds-values-n invariant-loop-rest decreases-loop-rest
array-set-from-values c = omega (arith, below c.before.before.before)

add-n : tie.Need-overflow_add-n invariant-loop-rest decreases-loop-rest
add-n c = omega (arith, below c.before.before.before.before)

loop-again : tie.Need-loop-rest-preserved invariant-loop-rest decreases-loop-rest
loop-again c =
    let i = c in
    let l = i.loop-rest in
    let text = i.args.text.now in
    let h : l.n < 64 = omega (arith, below i.before.before.before.before, i.requires) in
    let v =
    to_z-of_z w32 c.number_of-v.result (search rules)
    ∙ c.number_of-v.ensures
    ∙ ap₂ (λ (r : Range) (w : List ℕ). inside r (value w)) c.number_range.ensures c.first_line-line.ensures
    ∙ line-is answer (lines text) (lines l.rest.now) l.n l.invariant.2 in (
      omega arith,
      rw length-set l.invariant.1,
      line-next (lines text) (lines l.rest.now) _ l.n l.invariant.2 c.next_lines-next.ensures.0,
      fill_more l.values (map answer (lines text)) l.n _ (answer no_line) (omega arith) (rw length-map (below i.before.before.before.before)) v l.invariant.3,
      omega arith,
    )

returns : tie.Need-returns invariant-loop-rest decreases-loop-rest
returns c =
    let l = c.loop-rest in
    let text = c.args.text.now in
    let z : length l.rest.now ≡ 0 = omega arith in
    (l.invariant.3 ∙ take_all l.n (map answer (lines text)) (rw length-map (line-end l.rest.now (lines text) l.n l.invariant.2 z)), l.invariant.0)

pub answers_of_spec : {M : Type 1} → statement M
answers_of_spec =
    tie.close
    (tie.spec
    invariant-loop-rest
    decreases-loop-rest
    loop-holds
    (λ c κs. search rules)
    (λ c κs. search rules)
    number-of-requires
    (λ c. search rules)
    array-set-from-values
    (λ c κs. search rules)
    add-n
    (λ c. search rules)
    loop-again
    returns)
