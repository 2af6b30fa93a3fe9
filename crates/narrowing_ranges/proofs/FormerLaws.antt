-- No report is above that of the former bounds: each step of theirs covers a step of today's. Assumes nothing.
use Prim.Native.Nat.{ℕ}
use mathlib.Core.Path.{◌≡◌, refl}
use mathlib.Core.Bool.{Bool, true, false, cond}
use mathlib.Core.List.{List, [], ◌∷◌, map}
use native.Mathlib.Omega.{arith}
use lib.IntN.{ℤ}
use Rattle.cells.specs.Try.{Try, stuck, done, ◌>>=◌}
use Rattle.cells.specs.declared.Value.{Value}
use Rattle.cells.specs.declared.Value.TheVariants.{Range, Handle}
use Rattle.cells.specs.declared.Cell.{Cell}
use Rattle.cells.specs.Cells.{cell, range, unknown}
use Rattle.merge_cells.specs.Merge.{merge_values, merge_cells}
use Rattle.cells.specs.Order.{Refines, same, Pointwise, end, cons}
use Rattle.cells.specs.Covering.{Covered, by_stuck, both}
use Rattle.cells.proofs.RangeLaws.{covers, in-unknown, one-or-more}
use Rattle.cells.proofs.CellLaws.{refines-trans, refines-lawful, range-bits}
use Rattle.merge_cells.proofs.MergeLaws.{cell-merging}
use Rattle.instructions.specs.declared.Operation.{Operation}
use Rattle.machine.specs.Machine.{State, Next, Instruction, Code, fetch, load, execute, step}
use Rattle.machine.specs.Order.{Cellwise}
use Rattle.machine.specs.Covering.{NextCovered, stops_too, goes_too, opens_too, goes_not_taken, goes_taken}
use Rattle.machine.proofs.StateLaws.{cellwise-refl, cellwise-trans, height-law}
use Rattle.machine.proofs.StepLaws.{step-law}
use Rattle.bound_theory.specs.Tree.{tree, report, Report, Verdict, accepted, verdict, opening_limit, explore, bound}
use Rattle.bound_theory.specs.Promises.{NoGreater}
use Rattle.bound_theory.proofs.TreeLaws.{tree-law, accepted-complete, complete-accepted, contradiction}
use Rattle.merge_theory.specs.Merge.{nowhere, span, only, none, slot, merged}
use Rattle.merge_theory.proofs.SweepLaws.{Within, below-empty, Tables, arrive-law, Less, Verdicts, refused-there, accepted-both, sweep-law}
use Rattle.merge_theory.proofs.AssessLaws.{free}
use Rattle.merge_theory.proofs.TableLaws.{refines-both}
use Rattle.narrowing_ranges.specs.Former.{whole, former_value, former, former_state, compares_unknown, forget, former_step, former_bound, former_merged, BoundNotAboveFormer, MergedNotAboveFormer}
use Rattle.cells.specs.HeldConfined.{Confined}

-- ---- cells

done-covered : {a b : Cell} → Covered Refines (done a) (done b) → Refines a b
done-covered (both r) = r

whole_covers : (v : Value) → Refines (cell v) (whole v)
unfolding whole merge_cells merge_values
whole_covers (Range l m) = done-covered (cell-merging.left (range l m) (range l m) unknown same)
whole_covers (Handle k) = same

unknown-in-whole : (l : ℤ) (m : ℕ) → Refines unknown (whole (Range l m))
unfolding whole merge_cells merge_values
unknown-in-whole l m = done-covered (cell-merging.right unknown (range l m) unknown same)

whole-in-unknown : (l : ℤ) (m : ℕ) → Refines (range l m) unknown → Refines (whole (Range l m)) unknown
unfolding whole merge_cells merge_values
whole-in-unknown l m h = done-covered (cell-merging.least (range l m) unknown unknown h same)

-- of numbers of 31 bits `whole` is `?`
abbrev pub WholeIsUnknown : Type 0
WholeIsUnknown = (low : ℤ) (more : ℕ) → Confined (range low more) → whole (Range low more) ≡ unknown

pub whole-is-unknown : WholeIsUnknown
whole-is-unknown l m c = refines-both _ _ (whole-in-unknown l m (covers (in-unknown l m (range-bits c)))) (unknown-in-whole l m)

value-former : (v : Value) → Refines (cell v) (former_value v)
unfolding former_value
value-former (Range l m) = one-or-more (λ t. Refines (range l m) (cond t (range l m) (whole (Range l m)))) m (λ e. same) (λ h. whole_covers (Range l m))
value-former (Handle k) = same

cells-former : (xs : List Cell) → Pointwise Refines xs (map former xs)
cells-former [] = end
cells-former (x ∷ xs) = cons (value-former x.value) (cells-former xs)

blocks-former : (xs : List (List Cell)) → Pointwise (Pointwise Refines) xs (map (map former) xs)
blocks-former [] = end
blocks-former (x ∷ xs) = cons (cells-former x) (blocks-former xs)

state-former : (s : State) → Cellwise Refines s (former_state s)
unfolding former_state
state-former s = record { at = refl; accu = value-former s.accu.value; stack = cells-former s.stack; blocks = blocks-former s.blocks }

-- ---- the step

loaded : {s t : State} → Cellwise Refines s t → Cellwise Refines s (load (whole t.accu.value) t)
unfolding load
loaded {t} e = record { at = e.at; accu = refines-trans e.accu (whole_covers t.accu.value); stack = e.stack; blocks = e.blocks }

forget-covers : (b : Bool) {m : Try Next} {n : Next} → Covered (NextCovered (Cellwise Refines) (Unit {0})) m (done n) → Covered (NextCovered (Cellwise Refines) (Unit {0})) m (done (forget b n))
unfolding forget
forget-covers false h = h
forget-covers true (both stops_too) = both stops_too
forget-covers true (both (goes_too e)) = both (goes_too (loaded e))
forget-covers true (both (opens_too w e f)) = both (opens_too w e f)
forget-covers true (both (goes_not_taken e)) = both (goes_not_taken e)
forget-covers true (both (goes_taken e)) = both (goes_taken e)

module _ (c : Code) where
  keeps : (s t : State) → Cellwise Refines s t → Covered (NextCovered (Cellwise Refines) (Unit {0})) (step c unknown s) (former_step c t)
  unfolding former_step step former_state ◌>>=◌
  keeps s t e = go (fetch c t.at) (step-law refines-lawful c same (cellwise-trans (λ a b c h k. refines-trans h k) e (state-former t)))
    where
      made : (o : Operation) {m : Try Next} (n : Try Next) → Covered (NextCovered (Cellwise Refines) (Unit {0})) m n →
          Covered (NextCovered (Cellwise Refines) (Unit {0})) m (n >>= λ k. done (forget (compares_unknown o (former_state t)) k))
      made o stuck h = by_stuck
      made o (done n) h = forget-covers (compares_unknown o (former_state t)) h

      go : {m : Try Next} (i : Try Instruction) → Covered (NextCovered (Cellwise Refines) (Unit {0})) m (i >>= λ i. execute unknown i (former_state t)) →
          Covered (NextCovered (Cellwise Refines) (Unit {0})) m (i >>= λ i. execute unknown i (former_state t) >>= λ n. done (forget (compares_unknown i.operation (former_state t)) n))
      go stuck h = by_stuck
      go (done i) h = made i.operation (execute unknown i (former_state t)) h

-- ---- the bounds

pub bound-not-above-former : BoundNotAboveFormer
unfolding former_bound bound explore verdict report
bound-not-above-former c budget s q e =
    let t = tree (step c unknown) budget opening_limit s in
    let u = tree (former_step c) budget opening_limit s in
    let (w, fits, is) = accepted-complete u budget (report u) q e in
    let k = tree-law (λ s t e. height-law e) (step c unknown) (former_step c) (keeps c) budget budget opening_limit opening_limit s s (omega arith) (omega arith) (cellwise-refl (λ a. same) s) w in
    (report t, complete-accepted t budget (report t) k.complete (omega (arith, k.less.steps)), rw is at k.less)

pub merged-not-above-former : MergedNotAboveFormer
unfolding former_merged merged only nowhere slot
merged-not-above-former c s q e = through (sweep-law free 0 (step c unknown) (former_step c) (keeps c) (span c s) s.at (only s) (only s) none none here least) e
  where
    least : Less free 0 none none
    least = omega arith

    empty : Tables free nowhere nowhere
    empty = record { at = λ a. below-empty }

    here : Tables free (only s) (only s)
    here = arrive-law free _ _ (cellwise-refl (λ a. same) s) (let w : Within free free free = omega arith in w) empty

    through : {v w : Verdict} → Verdicts free 0 v w → w ≡ accepted q → (r : Report) × (v ≡ accepted r) × NoGreater r q
    through refused-there f = contradiction _ _ f
    through (accepted-both {r} {q = u} l) f = let h : u ≡ q = cc in let k = rw h at l in (r, refl, omega (arith, k))
