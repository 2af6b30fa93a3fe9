-- Laws of names: a name among others stands at the place where it is found, names that do not repeat are known by their places, and
-- the names of the kinds are such, with no space in them. Assumes nothing.
use Rattle.std.specs.Prelude.{None, Option, Some}
use mathlib.Core.Path.{◌≡◌, refl, sym, ap, subst, ◌∙◌}
use mathlib.Core.Bool.{Bool, true, false, cond, not, ◌&&◌, false≢true}
use mathlib.Core.List.{List, [], ◌∷◌}
use Prim.Native.Nat.{ℕ, zero, suc, ◌+◌, ◌<◌, ◌≤◌}
use native.Mathlib.Omega.{arith}
use native.Mathlib.Nat.{le_of_suc-le-suc}
use lib.Dec.{ltb}
use lib.ListN.{length, get_or}
use borrow.Author.Tests.{eq-eqb, not-true, ltb-true}
use Rattle.text.specs.Text.{equals, place_from, place_among, index_of, find, among, all, distinct}
use Rattle.text.proofs.TextLaws.{every_map, every-get_d, all-every, and_left, and_right, equals-path, is_found, among-place, place-below}
use Rattle.instructions.specs.Kinds.{Kind, kinds, kind_names, kind_at}
use Rattle.instructions.proofs.ColumnLaws.{column-at}
use Rattle.text.proofs.JoinLaws.{Free}

-- ---- a name among others

place-word : (k : ℕ) (w : List ℕ) (ws : List (List ℕ)) {n : ℕ} → place_from k w ws ≡ Some n → (k ≤ n) × ((i : ℕ) → n ≡ k + i → get_or ws i [] ≡ w)
place-word k w [] e = let z : ◌≡◌ {A = ℕ} 0 1 = cc in absurd (omega arith)
place-word k w (x ∷ xs) {n} e = go (equals w x) refl e (place-word (suc k) w xs)
  where
    go : (b : Bool) → equals w x ≡ b → cond b (Some k) (place_from (suc k) w xs) ≡ Some n
        → (place_from (suc k) w xs ≡ Some n → (suc k ≤ n) × ((i : ℕ) → n ≡ suc k + i → get_or xs i [] ≡ w))
        → (k ≤ n) × ((i : ℕ) → n ≡ k + i → get_or (x ∷ xs) i [] ≡ w)
    go true q p ih = let z : k ≡ n = cc in (omega arith, first z)
      where
        first : k ≡ n → (i : ℕ) → n ≡ k + i → get_or (x ∷ xs) i [] ≡ w
        first z zero r = sym (equals-path w x q)
        first z (suc i) r = absurd (omega arith)
    go false q p ih = let h = ih p in (omega arith, later h)
      where
        later : (suc k ≤ n) × ((i : ℕ) → n ≡ suc k + i → get_or xs i [] ≡ w) → (i : ℕ) → n ≡ k + i → get_or (x ∷ xs) i [] ≡ w
        later h zero r = absurd (omega arith)
        later h (suc i) r = h.1 i (omega arith)

-- it stands at its place
pub found-there : (w : List ℕ) (ws : List (List ℕ)) → among w ws ≡ true → (find w ws < length ws) × (get_or ws (find w ws) [] ≡ w)
unfolding find
found-there w ws e = go (place_among w ws) refl (sym (among-place 0 w ws) ∙ e)
  where
    go : (p : Option ℕ) → place_among w ws ≡ p → is_found p ≡ true → (index_of p < length ws) × (get_or ws (index_of p) [] ≡ w)
    go (Some k) q f = let h = place-below 0 w ws q in (omega arith, (place-word 0 w ws q).1 k (omega arith))
    go None q f = absurd (false≢true f)

-- ---- names that do not repeat

equals-same : (w : List ℕ) → equals w w ≡ true
unfolding equals
equals-same [] = refl
equals-same (x ∷ xs) = rw (eq-eqb x x refl) (equals-same xs)

among_there : (ws : List (List ℕ)) (i : ℕ) → i < length ws → among (get_or ws i []) ws ≡ true
unfolding among
among_there [] i h = absurd (omega arith)
among_there (w ∷ ws) zero h = rw (equals-same w) refl
among_there (w ∷ ws) (suc i) h = go (equals (get_or ws i []) w) (among_there ws i (le_of_suc-le-suc h))
  where
    go : (b : Bool) → among (get_or ws i []) ws ≡ true → cond b true (among (get_or ws i []) ws) ≡ true
    go true e = refl
    go false e = e

not-later : {X : Type 0} (w : List ℕ) (ws : List (List ℕ)) (i : ℕ) → i < length ws → (not (among w ws) && distinct ws) ≡ true → w ≡ get_or ws i [] → X
not-later w ws i h d e =
    absurd (false≢true (sym (not-true (among w ws) (and_left (not (among w ws)) (distinct ws) d)) ∙ subst (λ v. among v ws ≡ true) (sym e) (among_there ws i h)))

pub distinct-places : (ws : List (List ℕ)) → distinct ws ≡ true → (i j : ℕ) → i < length ws → j < length ws → get_or ws i [] ≡ get_or ws j [] → i ≡ j
unfolding distinct
distinct-places [] d i j h k e = absurd (omega arith)
distinct-places (w ∷ ws) d zero zero h k e = refl
distinct-places (w ∷ ws) d zero (suc j) h k e = not-later w ws j (le_of_suc-le-suc k) d e
distinct-places (w ∷ ws) d (suc i) zero h k e = not-later w ws i (le_of_suc-le-suc h) d (sym e)
distinct-places (w ∷ ws) d (suc i) (suc j) h k e =
    ap suc (distinct-places ws (and_right (not (among w ws)) (distinct ws) d) i j (le_of_suc-le-suc h) (le_of_suc-le-suc k) e)

-- ---- the names of the kinds

-- the name at a place of the table
name-at : (k : ℕ) → k < 61 → get_or kind_names k [] ≡ (kind_at k).name
unfolding kinds kind_names
name-at k h = column-at (λ r. r.name) (λ w. w) (λ r. r.name) [] refl k h

-- the kind that is found has the name
pub kind-name : (w : List ℕ) → among w kind_names ≡ true → (find w kind_names < 61) × ((kind_at (find w kind_names)).name ≡ w)
unfolding kinds kind_names
kind-name w e = let f = found-there w kind_names e in (f.0, sym (name-at (find w kind_names) f.0) ∙ f.1)

names-distinct : distinct kind_names ≡ true
unfolding kinds kind_names distinct among equals
names-distinct = refl

-- no two kinds have one name
pub name-known : (k j : ℕ) → k < 61 → j < 61 → (kind_at k).name ≡ (kind_at j).name → k ≡ j
unfolding kinds kind_names
name-known k j h i e = distinct-places kind_names names-distinct k j h i (name-at k h ∙ e ∙ sym (name-at j i))

-- the place of a kind's name
pub kind-found : (k : ℕ) → k < 61 → find (kind_at k).name kind_names ≡ k
unfolding kinds kind_names
kind-found k h =
    let f = kind-name (kind_at k).name (subst (λ w. among w kind_names ≡ true) (name-at k h) (among_there kind_names k h)) in
    name-known (find (kind_at k).name kind_names) k f.0 h f.1

-- the place of a name among names that do not repeat
pub name-found : (ws : List (List ℕ)) → distinct ws ≡ true → (i : ℕ) → i < length ws → find (get_or ws i []) ws ≡ i
name-found ws d i h = let f = found-there (get_or ws i []) ws (among_there ws i h) in distinct-places ws d (find (get_or ws i []) ws) i f.0 h f.1

-- no name holds a space or another byte below it: computed for the whole table
visible : Kind → Bool
visible k = all (λ b. ltb 32 b) k.name

pub name_free : (c : ℕ) → c ≤ 32 → (k : ℕ) → Free c (kind_at k).name
unfolding kinds kind_at all visible
name_free c h k = every_map (λ b e q. let v = ltb-true 32 b e in omega arith) (all-every (λ b. ltb 32 b) (kind_at k).name (every-get_d (all-every visible kinds refl) refl k))
