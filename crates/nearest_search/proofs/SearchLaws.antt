-- The trials of a search, one after the other. Assumes nothing.
use Rattle.std.specs.Prelude.{Err, Ok}
use Prim.Native.Nat.{ℕ, zero, suc, ◌+◌, ◌-◌, ◌<◌, ◌≤◌}
use mathlib.Core.Path.{◌≡◌, refl, sym, ap, ◌∙◌}
use mathlib.Core.Bool.{Bool, true, false, not}
use mathlib.Core.List.{List, [], ◌∷◌, ◌++◌, flat_map}
use Rattle.std.specs.Prelude.{Option, Some as some, None as none}
use native.Mathlib.Omega.{arith}
use lib.Dec.{eqb}
use lib.IntN.{ℤ}
use lib.ListN.{length, get_or, drop, length-take}
use Rattle.refusals.specs.declared.Refusal.{Refusal}
use Rattle.cells.specs.Try.{stuck, done}
use Rattle.cells.specs.Cells.{exactly, unknown}
use Rattle.cells.specs.declared.Cell.{Cell}
use Rattle.machine.specs.Machine.{State, Code, height, step, reblock}
use Rattle.machine_state.specs.declared.State as code
use Rattle.machine_state.specs.HeldState.{WellFormed, blocks_of, whole}
use Rattle.machine_state.proofs.StateLaws.{height-is}
use Rattle.bound_theory.specs.Tree.{Verdict, accepted, refused, bound, explore}
use Rattle.bound_figures.specs.declared.Found.{Found}
use Rattle.bound_figures.specs.HeldFigures.{accepted_as, Shows}
use Rattle.nearest_changes.specs.declared.Position.{Position}
use Rattle.nearest_changes.specs.declared.Change.{Change}
use Rattle.nearest_changes.specs.Places.{replace_at, from}
use Rattle.nearest_changes.specs.Changes.{number_at, applied, first, nearest}
use Rattle.nearest_changes.specs.Held.{trial_of}
use Rattle.nearest_changes.proofs.FirstLaws.{append-first, append-second}
use Rattle.nearest_changes.proofs.PlaceLaws.{Limited}
use Rattle.nearest_changes.proofs.TrialLaws.{all-trials}
use Rattle.nearest_search.specs.Search.{moved, found, refused_by, search_from, search}
use Rattle.nearest_search.specs.Held.{MovedAs, Reported, no_block, read_by, is_read, first_moved}

-- ---- one bound

-- other figures, or the same
pub moved-cycles : (n : ℕ) (f : Found) (b : Bool) → f.verdict ≡ Ok tt → not (eqb f.cycles n) ≡ b → MovedAs n f b
unfolding moved accepted_as
moved-cycles n f b e h (accepted q) s = sym h ∙ ap (λ (g : Found). not (eqb g.cycles n)) s
moved-cycles n f b e h (refused x) s = let k : Ok tt ≡ Err x = sym e ∙ s in let z : ◌≡◌ {A = ℕ} 0 1 = cc in absurd (omega arith)

pub moved-refused : (n : ℕ) (f : Found) (x : Refusal) → f.verdict ≡ Err x → MovedAs n f true
unfolding moved accepted_as
moved-refused n f x e (accepted q) s = let k : Err x ≡ Ok tt = sym e ∙ ap (λ (g : Found). g.verdict) s in let z : ◌≡◌ {A = ℕ} 0 1 = cc in absurd (omega arith)
moved-refused n f x e (refused y) s = refl

-- the explorer's verdict on a state that is t
pub shows-bound : (c : Code) (budget : ℕ) (f : Found) (s t : State) → s ≡ t → Shows f (explore (step c unknown) 32 budget s) → Shows f (bound c budget t)
unfolding bound
shows-bound c budget f s t e h = rw (← e) h

-- ---- one cell

module _ (c : Code) (budget n : ℕ) (s : State) (p : Position) where
  pub read_none : stuck ≡ number_at p s → false ≡ is_read c budget n s p
  unfolding is_read read_by
  read_none h = rw (← h) refl

  pub read_some : (v : ℤ) (b : Bool) → done v ≡ number_at p s → b ≡ moved n (bound c budget (replace_at p no_block s)) → b ≡ is_read c budget n s p
  unfolding is_read read_by
  read_some v b h e = rw (← h) e

-- ---- one trial

module _ (c : Code) (budget n : ℕ) (s : State) (xs : List Change) where
  pub tried-nothing : [] ≡ xs → none ≡ first_moved c budget n s xs
  unfolding first
  tried-nothing e = rw (← e) refl

  pub tried-hit : (x : Change) → x ∷ [] ≡ xs → true ≡ moved n (bound c budget (replace_at x.place (exactly x.value) s)) → some x ≡ first_moved c budget n s xs
  unfolding first applied
  tried-hit x e h = rw (← e, ← h) refl

  pub tried-miss : (x : Change) → x ∷ [] ≡ xs → false ≡ moved n (bound c budget (replace_at x.place (exactly x.value) s)) → none ≡ first_moved c budget n s xs
  unfolding first applied
  tried-miss x e h = rw (← e, ← h) refl

-- ---- numbers that rise, to below `top`

module _ (t : Change → Bool) (g : ℕ → List Change) (top : ℕ) (total : Option Change) where
  -- what is left is what there is
  abbrev pub Left : ℕ → Type 0
  Left k = total ≡ first t (flat_map g (from k (top - k)))

  turned : (k : ℕ) → k < top → Left k → total ≡ first t (g k ++ flat_map g (from (suc k) (top - suc k)))
  unfolding from flat_map
  turned k l h = let e : top - k ≡ suc (top - suc k) = omega arith in rw e at h

  pub turn-hit : (k : ℕ) (x : Change) → k < top → Left k → some x ≡ first t (g k) → some x ≡ total
  turn-hit k x l h e = sym (turned k l h ∙ append-first t (g k) (flat_map g (from (suc k) (top - suc k))) x (sym e))

  pub turn-miss : (k : ℕ) → k < top → Left k → none ≡ first t (g k) → Left (k + 1)
  turn-miss k l h e =
      let f : k + 1 ≡ suc k = omega arith in
      rw f (turned k l h ∙ append-second t (g k) (flat_map g (from (suc k) (top - suc k))) (sym e))

  pub turns-over : (k : ℕ) → top ≤ k → Left k → none ≡ total
  unfolding from flat_map first
  turns-over k l h = let e : top - k ≡ 0 = omega arith in sym (rw e at h)

-- ---- the code's start is within the limits

blocks-count : (ns : List ℕ) (fs : List Cell) → length (blocks_of ns fs) ≡ length ns
unfolding blocks_of
blocks-count [] fs = refl
blocks-count (n ∷ ns) fs = ap suc (blocks-count ns (drop 16 fs))

blocks-small : (ns : List ℕ) (fs : List Cell) → ((k : ℕ) → get_or ns k 0 ≤ 16) → (k : ℕ) → length (get_or (blocks_of ns fs) k []) ≤ 16
unfolding blocks_of
blocks-small [] fs h k = omega arith
blocks-small (n ∷ ns) fs h zero = let l = h 0 in let e = length-take n fs in omega arith
blocks-small (n ∷ ns) fs h (suc k) = blocks-small ns (drop 16 fs) (λ i. h (suc i)) k

pub whole-limited : (ns : List ℕ) (fs : List Cell) (s : code.State) → WellFormed s → ((k : ℕ) → get_or ns k 0 ≤ 16) → length ns ≤ 8 → Limited (whole ns fs s)
unfolding whole reblock height
whole-limited ns fs s f g l = record {
  entries = let h = height-is s f in omega arith;
  blocks = let h = blocks-count ns fs in omega arith;
  fields = blocks-small ns fs g;
}

-- the first turn
pub trials-left : (ns : List ℕ) (fs : List Cell) (s : code.State) → WellFormed s → ((k : ℕ) → get_or ns k 0 ≤ 16) → length ns ≤ 8 → (moves : State → Bool) →
    Left (λ x. moves (applied x (whole ns fs s))) (trial_of (whole ns fs s)) 24704 (nearest moves (whole ns fs s)) 0
unfolding nearest
trials-left ns fs s f g l moves = ap (first (λ x. moves (applied x (whole ns fs s)))) (all-trials (whole ns fs s) (whole-limited ns fs s f g l))

-- ---- the whole search

pub searched : (c : Code) (budget : ℕ) (s : State) (f : Found) (o : Option Change) → Shows f (bound c budget s) → f.verdict ≡ Ok tt →
    o ≡ nearest (λ t. moved f.cycles (bound c budget t)) s → found o ≡ search c budget s
unfolding search search_from accepted_as
searched c budget s f o = go (bound c budget s)
  where
    go : (v : Verdict) → Shows f v → f.verdict ≡ Ok tt → o ≡ nearest (λ t. moved f.cycles (bound c budget t)) s → found o ≡ search_from c budget s v
    go (accepted q) h e k = ap found (k ∙ ap (λ (g : Found). nearest (λ t. moved g.cycles (bound c budget t)) s) h)
    go (refused r) h e k = let j : Ok tt ≡ Err r = sym e ∙ h in let z : ◌≡◌ {A = ℕ} 0 1 = cc in absurd (omega arith)

-- the verdict that an answer shows
pub reported : (c : Code) (budget : ℕ) (s : State) (f : Found) → Shows f (bound c budget s) → f.verdict ≡ Ok tt → Reported c budget f.cycles s
unfolding accepted_as
reported c budget s f h e = go (bound c budget s) refl h
  where
    go : (v : Verdict) → bound c budget s ≡ v → Shows f v → Reported c budget f.cycles s
    go (accepted q) a h = record { report = q; accepts = a; figure = ap (λ (g : Found). g.cycles) (sym h) }
    go (refused r) a h = let j : Ok tt ≡ Err r = sym e ∙ h in let z : ◌≡◌ {A = ℕ} 0 1 = cc in absurd (omega arith)

pub search-refused : (c : Code) (budget : ℕ) (s : State) (f : Found) (r : Refusal) → Shows f (bound c budget s) → f.verdict ≡ Err r → refused_by r ≡ search c budget s
unfolding search search_from accepted_as
search-refused c budget s f r = go (bound c budget s)
  where
    go : (v : Verdict) → Shows f v → f.verdict ≡ Err r → refused_by r ≡ search_from c budget s v
    go (accepted q) h e = let j : Ok tt ≡ Err r = sym (ap (λ (g : Found). g.verdict) h) ∙ e in let z : ◌≡◌ {A = ℕ} 0 1 = cc in absurd (omega arith)
    go (refused x) h e = let j : Err r ≡ Err x = sym e ∙ h in let i : r ≡ x = cc in ap refused_by i
