-- The places that a start can have, and those that it has: the others have no cell. Assumes nothing.
use Prim.Native.Nat.{ℕ, zero, suc, ◌+◌, ◌-◌, ◌/◌, ◌%◌, ◌<◌, ◌≤◌}
use mathlib.Core.Path.{◌≡◌, refl, sym, ap, ap₂, ◌∙◌}
use mathlib.Core.Bool.{Bool, true, false}
use mathlib.Core.List.{List, [], ◌∷◌, ◌++◌, map, flat_map, append-nil}
use native.Mathlib.Omega.{arith}
use lib.Dec.{ltb}
use lib.IntN.{ℤ}
use lib.ListN.{length, get_or, get_or-eq_default}
use borrow.Author.Tests.{eq-eqb, ne_eqb, lt-ltb, le-ltb, ltb-true, ltb-false}
use Rattle.cells.specs.Try.{stuck, done, ◌>>=◌}
use Rattle.cells.specs.declared.Cell.{Cell}
use Rattle.machine.specs.Lists.{nth}
use Rattle.machine.specs.Machine.{State, height}
use Rattle.machine.proofs.ListLaws.{nth-out}
use Rattle.nearest_changes.specs.declared.Position.{Position}
use Rattle.nearest_changes.specs.declared.Position.TheVariants.{Accu, Entry, Field}
use Rattle.nearest_changes.specs.Places.{cell_at, from, fields_from, positions, position_of, all_positions}
use Rattle.nearest_changes.specs.Changes.{number_at, changes_of, changes_at, changes_by}
use Rattle.nearest_changes.proofs.FirstLaws.{flat_map-append, flat_map-map, from-append}
use Rattle.nearest_changes.proofs.CellLaws.{never, number-out}

-- no change of a cell that is not there
pub absent : (s : State) (n : ℕ) (p : Position) → cell_at p s ≡ stuck → changes_at s n p ≡ []
unfolding changes_at changes_of
absent s n p e = rw (number-out p s e) refl

pub entry_absent : (s : State) (n i : ℕ) → height s ≤ i → changes_at s n (Entry i) ≡ []
unfolding height cell_at
entry_absent s n i h = absent s n (Entry i) (nth-out i s.stack h)

no_field : (bs : List (List Cell)) (k i : ℕ) → length (get_or bs k []) ≤ i → (nth k bs >>= λ b. nth i b) ≡ stuck
unfolding nth ◌>>=◌
no_field [] k i h = refl
no_field (b ∷ bs) zero i h = nth-out i b h
no_field (b ∷ bs) (suc k) i h = no_field bs k i h

pub field-absent : (s : State) (n k i : ℕ) → length (get_or s.blocks k []) ≤ i → changes_at s n (Field k i) ≡ []
unfolding cell_at
field-absent s n k i h = absent s n (Field k i) (no_field s.blocks k i h)

module _ {B : Type 0} where
  -- nothing comes of numbers of which nothing comes
  nothing : (g : ℕ → List B) (k m : ℕ) → ((i : ℕ) → k ≤ i → g i ≡ []) → flat_map g (from k m) ≡ []
  unfolding flat_map from
  nothing g k zero h = refl
  nothing g k (suc m) h = rw (h k (omega arith)) (nothing g (suc k) m (λ i l. h i (omega arith)))

  -- as many as there are, of more
  fewer : (g : ℕ → List B) (k m n : ℕ) → m ≤ n → ((i : ℕ) → k + m ≤ i → g i ≡ []) → flat_map g (from k n) ≡ flat_map g (from k m)
  fewer g k m n l h =
      let e : n ≡ m + (n - m) = omega arith in
      ap (λ j. flat_map g (from k j)) e
      ∙ ap (flat_map g) (from-append k m (n - m))
      ∙ flat_map-append g (from k m) (from (k + m) (n - m))
      ∙ ap (λ xs. flat_map g (from k m) ++ xs) (nothing g (k + m) (n - m) h)
      ∙ append-nil (flat_map g (from k m))

-- the places of m blocks of sixteen fields, from block k on
unfoldable block_places : ℕ → ℕ → List Position
block_places k zero = []
block_places k (suc m) = map (Field k) (from 0 16) ++ block_places (suc k) m

module _ {B : Type 0} (g : Position → List B) where
  few-fields : (k m : ℕ) (bs : List (List Cell)) → length bs ≤ m → ((i : ℕ) → length (get_or bs i []) ≤ 16) →
      ((i j : ℕ) → length (get_or bs i []) ≤ j → g (Field (k + i) j) ≡ []) → flat_map g (block_places k m) ≡ flat_map g (fields_from k bs)
  unfolding block_places fields_from flat_map
  few-fields k zero [] l f h = refl
  few-fields k zero (b ∷ bs) l f h = absurd (omega arith)
  few-fields k (suc m) [] l f h =
      flat_map-append g (map (Field k) (from 0 16)) (block_places (suc k) m)
      ∙ ap₂ ◌++◌
      (flat_map-map g (Field k) (from 0 16) ∙ nothing (λ i. g (Field k i)) 0 16 (λ i a. let e : k + 0 ≡ k = omega arith in rw e at (h 0 i (omega arith))))
      (few-fields (suc k) m [] (omega arith) (λ i. f i) (λ i j a. let e : k + suc i ≡ suc k + i = omega arith in rw e at (h (suc i) j (omega arith))))
  few-fields k (suc m) (b ∷ bs) l f h =
      flat_map-append g (map (Field k) (from 0 16)) (block_places (suc k) m)
      ∙ ap₂ ◌++◌
      (flat_map-map g (Field k) (from 0 16)
      ∙ fewer (λ i. g (Field k i)) 0 (length b) 16 (f 0) (λ i a. let e : k + 0 ≡ k = omega arith in rw e at (h 0 i (omega arith)))
      ∙ sym (flat_map-map g (Field k) (from 0 (length b))))
      (few-fields (suc k) m bs (omega arith) (λ i. f (suc i)) (λ i j a. let e : k + suc i ≡ suc k + i = omega arith in rw e at (h (suc i) j a)))
      ∙ sym (flat_map-append g (map (Field k) (from 0 (length b))) (fields_from (suc k) bs))

-- ---- a place by its number

pub position-accu : (k : ℕ) → k ≡ 0 → Accu ≡ position_of k
unfolding position_of
position-accu k h = rw (eq-eqb k 0 h) refl

pub position-entry : (k : ℕ) → 0 < k → k < 65 → Entry (k - 1) ≡ position_of k
unfolding position_of
position-entry k h l = rw (ne_eqb k 0 (λ e. omega arith), lt-ltb k 65 l) refl

pub position-field : (k : ℕ) → 65 ≤ k → Field ((k - 65) / 16) ((k - 65) % 16) ≡ position_of k
unfolding position_of
position-field k l = rw (ne_eqb k 0 (λ e. omega arith), le-ltb k 65 l) refl

-- the places in the order of their numbers
all_listed : all_positions ≡ Accu ∷ (map Entry (from 0 64) ++ block_places 0 8)
unfolding all_positions position_of from block_places
all_listed = refl

listed-changes : (s : State) (n : ℕ) → flat_map (changes_at s n) all_positions ≡ flat_map (λ k. changes_at s n (position_of k)) (from 0 193)
unfolding all_positions
listed-changes s n = flat_map-map (changes_at s n) position_of (from 0 193)

-- a start within the limits of the machine
pub record Limited (s : State) : Type 0 where
  pub entries : height s ≤ 64
  pub blocks : length s.blocks ≤ 8
  pub fields : (k : ℕ) → length (get_or s.blocks k []) ≤ 16

-- the changes of all places are those of the places that the start has
pub all-changes : (s : State) → Limited s → (n : ℕ) → changes_by s n ≡ flat_map (λ k. changes_at s n (position_of k)) (from 0 193)
unfolding changes_by positions flat_map
all-changes s l n =
    let g = changes_at s n in
    ap (λ xs. changes_at s n Accu ++ xs)
    (flat_map-append g (map Entry (from 0 (height s))) (fields_from 0 s.blocks)
    ∙ ap₂ ◌++◌
    (flat_map-map g Entry (from 0 (height s))
    ∙ sym (fewer (λ i. g (Entry i)) 0 (height s) 64 l.entries (λ i a. entry_absent s n i (omega arith)))
    ∙ sym (flat_map-map g Entry (from 0 64)))
    (sym (few-fields g 0 8 s.blocks l.blocks l.fields (λ i j a. let e : 0 + i ≡ i = omega arith in rw e (field-absent s n i j a))))
    ∙ sym (flat_map-append g (map Entry (from 0 64)) (block_places 0 8)))
    ∙ ap (flat_map g) (sym all_listed)
    ∙ listed-changes s n

-- ---- a number stands at a place that the start has

pub entry-below : (s : State) (i : ℕ) (v : ℤ) → number_at (Entry i) s ≡ done v → i < height s
unfolding height cell_at
entry-below s i v e = go (ltb i (height s)) refl
  where
    go : (b : Bool) → ltb i (height s) ≡ b → i < height s
    go true h = ltb-true i (height s) h
    go false h = never v (sym (number-out (Entry i) s (nth-out i s.stack (ltb-false i (height s) h))) ∙ e)

pub field_below : (s : State) (k i : ℕ) (v : ℤ) → number_at (Field k i) s ≡ done v → (k < length s.blocks) × (i < length (get_or s.blocks k []))
unfolding cell_at
field_below s k i v e = let l = inner (ltb i (length (get_or s.blocks k []))) refl in (outer l (ltb k (length s.blocks)) refl, l)
  where
    inner : (b : Bool) → ltb i (length (get_or s.blocks k [])) ≡ b → i < length (get_or s.blocks k [])
    inner true h = ltb-true i (length (get_or s.blocks k [])) h
    inner false h = never v (sym (number-out (Field k i) s (no_field s.blocks k i (ltb-false i (length (get_or s.blocks k [])) h))) ∙ e)

    outer : i < length (get_or s.blocks k []) → (b : Bool) → ltb k (length s.blocks) ≡ b → k < length s.blocks
    outer l true h = ltb-true k (length s.blocks) h
    outer l false h = let z = ap length (get_or-eq_default s.blocks [] (ltb-false k (length s.blocks) h)) in absurd (omega arith)
