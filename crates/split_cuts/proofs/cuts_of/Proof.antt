-- `split_cuts::cuts_of` meets its contract. The loop's invariant: n lines after the first are read into the arrays, and the others are those
-- of what is left (`Filled`). The measure is the length of what is left. Assumes nothing.
use Prim.Native.Nat.{◌≤◌, ◌<◌}
use mathlib.Core.Path.{◌≡◌, refl, ap, ◌∙◌}
use native.Mathlib.Omega.{arith}
use mir.Syntax.{w32}
use mir.ValLaws.{to_z-of_z}
use lib.ListN.{length, drop, length-drop}
use Rattle.text.specs.Text.{lines}
use Rattle.split_cuts.specs.Cuts.{cell_name, place_number, cut_number}
use Rattle.split_cuts.proofs.ReadLaws.{Filled, another, fill-next, cuts-read, cuts-small}
use borrow.Author.Rules.{rules}
use Rattle.split_cuts.proofs.cuts_of.Statement.{statement}
use Rattle.split_cuts.proofs.cuts_of.Tie as tie

abbrev invariant-loop-rest : tie.invariant-loop-rest
invariant-loop-rest cuts places₀ numbers₀ rest₀ n₀ places numbers rest n =
    Filled (drop 1 (lines cuts)) places numbers rest n × (n ≤ length (drop 1 (lines cuts))) × (length rest ≤ length cuts)

abbrev decreases-loop-rest : tie.decreases-loop-rest
decreases-loop-rest cuts places₀ numbers₀ rest₀ n₀ places numbers rest n = length rest

few : (c : tie.In-loop-rest invariant-loop-rest decreases-loop-rest) → length (drop 1 (lines c.args.cuts.now)) ≤ 16
few c = let h = c.requires in omega (arith, length-drop 1 (lines c.args.cuts.now))

below : (c : tie.In-loop-rest invariant-loop-rest decreases-loop-rest) → c.loop-rest.n < length (drop 1 (lines c.args.cuts.now))
below c = let l = c.loop-rest in another _ (few c) _ _ _ _ l.invariant.0 c.loop-rest-test.true

loop-holds : tie.Need-loop-rest-init invariant-loop-rest decreases-loop-rest
loop-holds c = (record { room = (refl, refl); left = c.next_lines-rest.ensures.0; places = refl; numbers = refl }, omega arith, omega (arith, c.next_lines-rest.ensures.1))

mul-places : tie.Need-offset_bounds-places-n invariant-loop-rest decreases-loop-rest
mul-places c = let i = c in omega (arith, below i.before.before.before, few i.before.before.before)

array-write-places : tie.Need-bounds-places-n invariant-loop-rest decreases-loop-rest
array-write-places c = let i = c in omega (arith, below i.before.before.before, few i.before.before.before)

mul-numbers : tie.Need-offset_bounds-numbers-n invariant-loop-rest decreases-loop-rest
mul-numbers c = let i = c in omega (arith, below i.before.before.before.before, few i.before.before.before.before)

array-set-from-numbers : tie.Need-bounds-numbers-n invariant-loop-rest decreases-loop-rest
array-set-from-numbers c = let i = c in omega (arith, below i.before.before.before.before, few i.before.before.before.before)

add-n : tie.Need-overflow_add-n invariant-loop-rest decreases-loop-rest
add-n c = let i = c in omega (arith, below i.before.before.before.before.before, few i.before.before.before.before.before)

loop-again : tie.Need-loop-rest-preserved invariant-loop-rest decreases-loop-rest
loop-again c =
    let i = c in
    let l = i.loop-rest in
    let line = c.first_line-line.ensures in (
      fill-next _ (few i.before.before.before.before.before) _ _ _ _ l.invariant.0 i.loop-rest-test.true _ _
          (c.place_of-k.ensures ∙ ap place_number (c.word_at.ensures ∙ ap cell_name line))
          (to_z-of_z w32 c.number_of-v.result (search rules) ∙ c.number_of-v.ensures ∙ ap cut_number line)
          _ c.next_lines-next.ensures.0,
      omega (arith, below i.before.before.before.before.before),
      omega (arith, c.next_lines-next.ensures.1, l.invariant.2),
    )

returns : tie.Need-returns invariant-loop-rest decreases-loop-rest
returns c =
    let l = c.loop-rest in
    let start = c in
    let few = length-drop 1 (lines start.args.cuts.now) in
    let none : length l.rest.now ≡ 0 = omega arith in (
      cuts-read _ start.requires _ _ _ _ l.invariant.0 l.invariant.1 none,
      cuts-small _ start.requires _ _ _ _ l.invariant.0 l.invariant.1 none (omega (arith, start.requires, few)),
    )

pub cuts_of_spec : {M : Type 1} → statement M
cuts_of_spec =
    tie.close
    (tie.spec
    invariant-loop-rest
    decreases-loop-rest
    (λ c κs. search rules)
    loop-holds
    (λ c κs. search rules)
    (λ c κs. search rules)
    (λ c κs. search rules)
    mul-places
    array-write-places
    (λ c κs. search rules)
    mul-numbers
    array-set-from-numbers
    (λ c κs. search rules)
    add-n
    (λ c. search rules)
    loop-again
    returns)
