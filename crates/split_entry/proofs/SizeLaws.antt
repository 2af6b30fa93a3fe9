-- How large the figures of the bound by cases are, and where it refuses. Assumes nothing.
use Prim.Native.Nat.{ℕ, ◌≤◌}
use mathlib.Core.Path.{◌≡◌, refl, subst, ◌∙◌}
use mathlib.Core.Bool.{Bool, true, false, cond}
use mathlib.Core.List.{List, [], ◌∷◌}
use native.Mathlib.Omega.{arith}
use lib.IntN.{ℤ}
use lib.ListN.{length-set}
use Rattle.refusals.specs.declared.Refusal.{Refusal}
use Rattle.refusals.specs.Refusals.{place}
use Rattle.text.specs.Text.{lines}
use Rattle.cells.specs.Try.{Try, stuck, done}
use Rattle.cells.specs.declared.Value.{Value}
use Rattle.cells.specs.declared.Cell.{Cell}
use Rattle.machine.specs.Machine.{State, Code, Instruction, fetch, height, load, restack, reblock}
use Rattle.machine.proofs.HeightLaws.{Low}
use Rattle.machine.proofs.PriceLaws.{AtMost, Both}
use Rattle.bound_theory.specs.Tree.{Report, accepted, refused}
use Rattle.bound_theory.proofs.FigureLaws.{Bounded}
use Rattle.merge_theory.specs.Merge.{span}
use Rattle.merge_theory.proofs.FigureLaws.{merged-bounded, merged-place}
use Rattle.file_format.specs.Rows.{Passes}
use Rattle.file_format.specs.Routine.{Routine, routine_of}
use Rattle.file_format.proofs.PlaceLaws.{confined, start_small}
use Rattle.report_theory.proofs.SizeLaws.{Limited, priced, low}
use Rattle.nearest_changes.specs.declared.Position.{Position}
use Rattle.nearest_changes.specs.declared.Position.TheVariants.{Accu, Entry, Field}
use Rattle.nearest_changes.specs.Places.{cell_at, replace_at}
use Rattle.split_theory.specs.Split.{divides, cut_to, below, from, Cut, largest, larger, split, Case, whole, undivided, lower, upper}
use Rattle.split_theory.proofs.SplitLaws.{both}
use Rattle.split_theory.proofs.Theorems.{split-refused}

-- ---- a cell that is cut leaves the address and the height

-- the same address and the same height
record Alike (s t : State) : Type 0 where
  at : t.at ≡ s.at
  high : height t ≡ height s

replaced-alike : (p : Position) (c : Cell) (s : State) → Alike s (replace_at p c s)
unfolding replace_at load restack reblock height
replaced-alike Accu c s = record { at = refl; high = refl }
replaced-alike (Entry k) c s = record { at = refl; high = length-set s.stack k c }
replaced-alike (Field b k) c s = record { at = refl; high = refl }

cut-alike : (part : Value → Cell) (p : Position) (m : Try Cell) (s : State) → Alike s (cut_to part p m s)
unfolding cut_to
cut-alike part p stuck s = record { at = refl; high = refl }
cut-alike part p (done c) s = replaced-alike p (part c.value) s

below_alike : (p : Position) (n : ℤ) (s : State) → Alike s (below p n s)
unfolding below
below_alike p n s = cut-alike _ p (cell_at p s) s

from-alike : (p : Position) (n : ℤ) (s : State) → Alike s (from p n s)
unfolding from
from-alike p n s = cut-alike _ p (cell_at p s) s

still-low : {s t : State} → Alike s t → Low s → Low t
still-low a l = record { low = rw a.high l.low }

case_at : {cuts : List Cut} {s u : State} → Case cuts s u → u.at ≡ s.at
case_at whole = refl
case_at (undivided e k) = case_at k
case_at (lower {x} {xs} {s} e k) = case_at k ∙ (below_alike x.place x.number s).at
case_at (upper {x} {xs} {s} e k) = case_at k ∙ (from-alike x.place x.number s).at

-- ---- the figures

largest-bounded : (n : ℕ) (r u : Report) → Bounded 196605 510 n r → Bounded 196605 510 n u → Bounded 196605 510 n (largest r u)
unfolding largest
largest-bounded n r u a b = record {
  cycles = omega (arith, a.cycles, b.cycles);
  words = omega (arith, a.words, b.words);
  depth = omega (arith, a.depth, b.depth);
  steps = omega (arith, a.steps, b.steps);
  path = omega arith;
}

module _ (c : Code) (cheap : (a : ℕ) (i : Instruction) → fetch c a ≡ done i → Both (AtMost 196605 510) i.price i.extra) where
  split-bounded : (cuts : List Cut) (s : State) (n : ℕ) → span c s ≤ n → Low s → (q : Report) → split c cuts s ≡ accepted q → Bounded 196605 510 n q
  unfolding split
  split-bounded [] s n h l q e =
      let b = merged-bounded 196605 510 c cheap s l q e in
      record { cycles = b.cycles; words = b.words; depth = b.depth; steps = omega (arith, b.steps); path = b.path }
  split-bounded (x ∷ xs) s n h l q e = go (λ t a. split-bounded xs t n (rw a.at h) (still-low a l)) (divides x.place x.number s) e
    where
      go : ((t : State) → Alike s t → (r : Report) → split c xs t ≡ accepted r → Bounded 196605 510 n r) → (b : Bool) →
          cond b (larger (split c xs (below x.place x.number s)) (split c xs (from x.place x.number s))) (split c xs s) ≡ accepted q → Bounded 196605 510 n q
      go f true e =
          let k = both (split c xs (below x.place x.number s)) (split c xs (from x.place x.number s)) q e in
          subst (Bounded 196605 510 n) k.is
          (largest-bounded n k.first k.second
          (f (below x.place x.number s) (below_alike x.place x.number s) k.first k.accepts)
          (f (from x.place x.number s) (from-alike x.place x.number s) k.second k.accepts'))
      go f false e = f s (record { at = refl; high = refl }) q e

module _ (text : List ℕ) (x : Routine) (passes : Passes (lines text)) (is : x ≡ routine_of (lines text)) (cuts : List Cut) where
  pub split-limited : (q : Report) → split x.code cuts x.start ≡ accepted q → Limited q
  split-limited q e =
      let h = rw (← is) at (confined (lines text) passes).past in
      split-bounded x.code (priced text x passes is) cuts x.start 1000000 (omega arith) (low text x passes is) q e

  pub split-place : (r : Refusal) → split x.code cuts x.start ≡ refused r → place r ≤ 62000
  split-place r e =
      let (u, k, m) = split-refused x.code cuts x.start r e in
      merged-place 62000 x.code (rw is (confined (lines text) passes).past) u (rw (case_at k, is) (start_small (lines text) passes)) r m
