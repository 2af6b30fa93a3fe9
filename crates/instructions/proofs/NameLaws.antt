-- A kind by its name. In a list of kinds by key a name stands for its own kind, and in a list of starts each name stands where its
-- start says: both are computed for the whole table. Assumes nothing.
use Rattle.std.specs.Prelude.{None, Option, Some}
use Prim.Native.Nat.{ℕ, zero, suc, ◌+◌, ◌-◌, ◌<◌, ◌≤◌}
use mathlib.Core.Path.{◌≡◌, refl, sym, ap, subst, ◌∙◌}
use mathlib.Core.Bool.{Bool, true, false, false≢true, ◌&&◌}
use mathlib.Core.List.{List, [], ◌∷◌, ◌++◌}
use mathlib.Core.Logic.{⊎_elim}
use native.Mathlib.Omega.{arith}
use native.Mathlib.Nat.{eq-or-lt_of_le, not-suc-le-zero}
use lib.Dec.{eqb, leb, ltb}
use lib.ListN.{length, get_or, take, drop, set, replicate}
use mir.Syntax.{w64}
use mir.Val.{Fits}
use borrow.Author.Tests.{eqb-true, ltb-true, leb-true}
use Rattle.text.specs.Text.{equals, place_among, find, among, all}
use Rattle.text.proofs.TextLaws.{and_left, and_right, every-get_d, every_map, all-every, among-every, among-at, is_found, among-place, equals-path, equals-self, among-find}
use Rattle.instructions.specs.Kinds.{kinds, kind_names, kind_at}
use Rattle.instructions.specs.HeldColumns.{name_start, name_key, Keyed, Joined}
use Rattle.instructions.proofs.ColumnLaws.{names-count, column-at, kind-small}

-- a test that passes at each number below n
abbrev pub all_below : (ℕ → Bool) → ℕ → Bool
all_below t zero = true
all_below t (suc n) = t n && all_below t n

pub below_at : (t : ℕ → Bool) (n : ℕ) → all_below t n ≡ true → (k : ℕ) → k < n → t k ≡ true
below_at t zero e k h = absurd (not-suc-le-zero h)
below_at t (suc n) e k h =
    ⊎_elim
    (λ (q : k ≡ n). subst (λ i. t i ≡ true) (sym q) (and_left (t n) (all_below t n) e))
    (λ (l : k < n). below_at t n (and_right (t n) (all_below t n) e) k l)
    (eq-or-lt_of_le (omega arith))

-- ---- by key

-- l with the places of the given words, counted from k, at their keys
abbrev pub keyed_from : ℕ → List (List ℕ) → List ℕ → List ℕ
keyed_from k [] l = l
keyed_from k (w ∷ ws) l = keyed_from (suc k) ws (set l (name_key w) k)

-- the kinds by the keys of their names
abbrev pub kinds_by_key : List ℕ
kinds_by_key = keyed_from 0 kind_names (replicate 256 0)

-- no two names have one key
at-own-key : (k : ℕ) → k < 61 → get_or kinds_by_key (name_key (kind_at k).name) 0 ≡ k
unfolding kinds kind_names kind_at
at-own-key k h =
    let own : ℕ → Bool = λ i. eqb (get_or kinds_by_key (name_key (kind_at i).name) 0) i in
    eqb-true (get_or kinds_by_key (name_key (kind_at k).name) 0) k (below_at own 61 refl k h)

key-low : (i : ℕ) → get_or kinds_by_key i 0 < 61
unfolding all kinds kind_names
key-low i = every-get_d (every_map (λ k q. ltb-true k 61 q) (all-every (λ k. ltb k 61) kinds_by_key refl)) (omega arith) i

pub by_key : Keyed kinds_by_key
by_key = record { at_key = at-own-key; low = key-low }

-- a name has 2 to 12 characters
pub name-length : (w : List ℕ) → among w kind_names ≡ true → (2 ≤ length w) × (length w ≤ 12)
unfolding all kinds kind_names
name-length w h =
    let t : List ℕ → Bool = λ x. leb 2 (length x) && leb (length x) 12 in
    let e = among-every {P = λ x. t x ≡ true} w kind_names h (all-every t kind_names refl) in
    (leb-true 2 (length w) (and_left (leb 2 (length w)) (leb (length w) 12) e), leb-true (length w) 12 (and_right (leb 2 (length w)) (leb (length w) 12) e))

-- what is not among the names has no place there
pub not_named : (w : List ℕ) → (among w kind_names ≡ true → ⊥) → place_among w kind_names ≡ None
not_named w h = go (place_among w kind_names) refl
  where
    go : (p : Option ℕ) → place_among w kind_names ≡ p → place_among w kind_names ≡ None
    go (Some k) e = absurd (h (among-place 0 w kind_names ∙ ap is_found e))
    go None e = e

-- a name by its place
name-at : (k : ℕ) → k < 61 → get_or kind_names k [] ≡ (kind_at k).name
unfolding kinds kind_names
name-at k h = column-at (λ r. r.name) (λ x. x) (λ r. r.name) [] refl k h

-- k is the only kind that can have the name w: it has it, or w is no name
module _ (w : List ℕ) (k : ℕ) (low : k < 61) (only : (j : ℕ) → j < 61 → w ≡ (kind_at j).name → k ≡ j) where
  found : among w kind_names ≡ true → k ≡ find w kind_names
  found a = only (find w kind_names) (kind-small w) (sym (among-find w kind_names a).1 ∙ name-at (find w kind_names) (kind-small w))

  pub is-named : equals w (kind_at k).name ≡ true → place_among w kind_names ≡ Some k
  is-named e =
      let q = equals-path w (kind_at k).name e in
      let a = subst (λ x. among x kind_names ≡ true) (name-at k low ∙ sym q) (among-at kind_names k (rw names-count low)) in
      (among-find w kind_names a).0 ∙ ap Some (sym (found a))

  pub is-unnamed : equals w (kind_at k).name ≡ false → place_among w kind_names ≡ None
  is-unnamed e =
      not_named w
      (λ a.
      let n : (kind_at k).name ≡ w = sym (name-at k low) ∙ ap (λ i. get_or kind_names i []) (found a) ∙ (among-find w kind_names a).1 in
      false≢true (sym e ∙ ap (equals w) n ∙ equals-self w))

-- ---- where a name stands

-- a start is before the next, and none is past the space after the last name
abbrev spaced : ℕ → Bool
spaced k = ltb (name_start k) (name_start (k + 1)) && leb (name_start (k + 1)) 475

spaced-at : (k : ℕ) → k < 61 → spaced k ≡ true
unfolding kinds kind_names
spaced-at k h = below_at spaced 61 refl k h

pub start-less : (k : ℕ) → k < 61 → name_start k < name_start (k + 1)
start-less k h = ltb-true (name_start k) (name_start (k + 1)) (and_left (ltb (name_start k) (name_start (k + 1))) (leb (name_start (k + 1)) 475) (spaced-at k h))

pub start-low : (k : ℕ) → k < 61 → name_start (k + 1) ≤ 475
start-low k h = leb-true (name_start (k + 1)) 475 (and_right (ltb (name_start k) (name_start (k + 1))) (leb (name_start (k + 1)) 475) (spaced-at k h))

pub start_fits : (k : ℕ) → k ≤ 61 → Fits w64 (name_start k)
unfolding kinds kind_names
start_fits k h =
    let q = leb-true (name_start k) 475 (below_at (λ i. leb (name_start i) 475) 62 refl k (omega arith)) in
    record { fits = omega (arith, q) }

-- the given words, parted by single spaces
abbrev pub joined : List (List ℕ) → List ℕ
joined [] = []
joined (w ∷ []) = w
joined (w ∷ x ∷ ws) = w ++ (32 ∷ joined (x ∷ ws))

-- a name stands from its start up to the space before the next
abbrev pub slice : ℕ → List ℕ
slice k = take (name_start (k + 1) - 1 - name_start k) (drop (name_start k) (joined kind_names))

slice_is : (k : ℕ) → k < 61 → slice k ≡ (kind_at k).name
unfolding equals kinds kind_names kind_at
slice_is k h = equals-path (slice k) (kind_at k).name (below_at (λ i. equals (slice i) (kind_at i).name) 61 refl k h)

pub all-joined : Joined (joined kind_names)
unfolding kinds kind_names
all-joined = record { size = refl; at_start = slice_is }
