-- `file_names::distinct` meets its contract. The loop's invariant: e is the length of the first word of what is left, and no word of the
-- line stands twice if none of those left does. The measure is the length of what is left. Assumes nothing.
use Prim.Native.Nat.{◌≤◌}
use mathlib.Core.Path.{◌≡◌, refl, sym, ◌∙◌}
use native.Mathlib.Omega.{arith}
use native.Mathlib.Nat.{le_of_lt}
use lib.ListN.{length}
use lib.Seq.{length-take-le}
use borrow.Author.Rules.{rules}
use Rattle.text.specs.Text.{line_words, distinct}
use Rattle.text.proofs.ScanLaws.{first_length}
use Rattle.file_names.proofs.NameLaws.{distinct-again, distinct-next, distinct-last}
use Rattle.file_names.proofs.distinct.Statement.{statement}
use Rattle.file_names.proofs.distinct.Tie as tie

abbrev invariant-loop-e : tie.invariant-loop-e
invariant-loop-e line rest₀ e₀ rest e = (e ≡ first_length 32 rest) × (length rest ≤ length line) × (distinct (line_words line) ≡ distinct (line_words rest))

abbrev decreases-loop-e : tie.decreases-loop-e
decreases-loop-e line rest₀ e₀ rest e = length rest

loop-holds : tie.Need-loop-e-init invariant-loop-e decreases-loop-e
loop-holds c = (c.piece_length-e.ensures, omega arith, refl)

slice-aggregate-w : tie.Need-slice_bounds-w-end invariant-loop-e decreases-loop-e
slice-aggregate-w c = sym (length-take-le _ _ (le_of_lt c.loop-e-test.true))

returns : tie.Need-returns-then-is_among invariant-loop-e decreases-loop-e
returns c =
    let t = c in
    sym (t.loop-e.invariant.2 ∙ distinct-again _ _ t.loop-e.invariant.0 t.loop-e-test.true (sym c.is_among.ensures ∙ c.if-is_among.true))

loop-again : tie.Need-loop-e-preserved invariant-loop-e decreases-loop-e
loop-again c =
    let j = c in
    let t = j in (
      c.piece_length-e-in-loop-e.ensures,
      omega arith,
      t.loop-e.invariant.2 ∙ distinct-next _ _ t.loop-e.invariant.0 t.loop-e-test.true (sym j.is_among.ensures ∙ j.if-is_among.false),
    )

returns-2 : tie.Need-returns invariant-loop-e decreases-loop-e
returns-2 c =
    let l = c in
    sym (l.loop-e.invariant.2 ∙ distinct-last _ _ l.loop-e.invariant.0 c.loop-e-test.false)

pub distinct_spec : {M : Type 1} → statement M
distinct_spec =
    tie.close
    (tie.spec
    invariant-loop-e
    decreases-loop-e
    (λ c κs. search rules)
    loop-holds
    slice-aggregate-w
    (λ c. search rules)
    (λ c. search rules)
    (λ c. search rules)
    (λ c. search rules)
    (λ c κs. search rules)
    returns
    (λ c κs. search rules)
    (λ c. search rules)
    loop-again
    returns-2)
