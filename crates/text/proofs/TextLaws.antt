-- Laws of texts: what holds of each byte of the pieces holds of each byte of the text; a word among the given ones is one of them. And
-- of tests that hold together or agree. Assumes nothing.
use Rattle.std.specs.Prelude.{None, Option, Some}
use mathlib.Core.Path.{◌≡◌, refl, sym, ap, ap₂, subst, ◌∙◌}
use mathlib.Core.Bool.{Bool, true, false, cond, false≢true, and-eq-true_iff, ◌&&◌}
use mathlib.Core.List.{List, [], ◌∷◌, ◌++◌}
use Prim.Native.Nat.{ℕ, zero, suc, ◌+◌, ◌-◌, ◌<◌, ◌≤◌}
use native.Mathlib.Omega.{arith}
use native.Mathlib.Nat.{le_of_suc-le-suc, not-suc-le-zero}
use lib.Dec.{eqb, leb, ltb}
use lib.ListN.{length, get_or}
use borrow.Author.Tests.{eqb-true, eq-eqb, ltb-true, ltb-false, lt-ltb, le-ltb, leb-true, leb-false, le-leb, lt-leb}
use Rattle.std.specs.List.{list_all}
use Rattle.std.specs.Cmp.Lexicographic.{pointwise}
use Rattle.text.specs.Text.{equals, onto, parted_by, lines_of, lines, place_from, place_among, index_of, find, among, all}

-- tests that hold together

pub and_left : (a b : Bool) → (a && b) ≡ true → a ≡ true
and_left a b e = ((and-eq-true_iff a b).0 e).0

pub and_right : (a b : Bool) → (a && b) ≡ true → b ≡ true
and_right a b e = ((and-eq-true_iff a b).0 e).1

-- the same, written with `cond`
pub cond-left : (a b : Bool) → cond a b false ≡ true → a ≡ true
cond-left true b e = refl
cond-left false b e = e

pub cond-right : (a b : Bool) → cond a b false ≡ true → b ≡ true
cond-right true b e = e
cond-right false b e = absurd (false≢true e)

-- two comparisons agree where each holds if the other does

pub ltb-agree : (a b c d : ℕ) → (c < d → a < b) → (d ≤ c → b ≤ a) → ltb a b ≡ ltb c d
ltb-agree a b c d f g = go (ltb c d) refl
  where
    go : (t : Bool) → ltb c d ≡ t → ltb a b ≡ ltb c d
    go true e = lt-ltb a b (f (ltb-true c d e)) ∙ sym e
    go false e = le-ltb a b (g (ltb-false c d e)) ∙ sym e

pub leb-agree : (a b c d : ℕ) → (c ≤ d → a ≤ b) → (d < c → b < a) → leb a b ≡ leb c d
leb-agree a b c d f g = go (leb c d) refl
  where
    go : (t : Bool) → leb c d ≡ t → leb a b ≡ leb c d
    go true e = le-leb a b (f (leb-true c d e)) ∙ sym e
    go false e = lt-leb a b (g (leb-false c d e)) ∙ sym e

-- P holds of each element
pub data Every {A : Type 0} (P : A → Type 0) : List A → Type 0 where
  none : Every P []
  more : {x : A} {xs : List A} → P x → Every P xs → Every P (x ∷ xs)

module _ {A : Type 0} {P : A → Type 0} where
  pub every_append : {xs ys : List A} → Every P xs → Every P ys → Every P (xs ++ ys)
  every_append none q = q
  every_append (more p ps) q = more p (every_append ps q)

  pub every-left : (xs ys : List A) → Every P (xs ++ ys) → Every P xs
  every-left [] ys h = none
  every-left (x ∷ xs) ys (more p ps) = more p (every-left xs ys ps)

  pub every_map : {Q : A → Type 0} → ((x : A) → P x → Q x) → {xs : List A} → Every P xs → Every Q xs
  every_map f none = none
  every_map f (more {x} p ps) = more (f x p) (every_map f ps)

  pub every-get_d : {xs : List A} {d : A} → Every P xs → P d → (i : ℕ) → P (get_or xs i d)
  every-get_d none q i = q
  every-get_d (more p ps) q zero = p
  every-get_d (more p ps) q (suc i) = every-get_d ps q i

pub all-every : {A : Type 0} (t : A → Bool) (xs : List A) → all t xs ≡ true → Every (λ x. t x ≡ true) xs
unfolding all
all-every t [] e = none
all-every t (x ∷ xs) e = more (and_left (t x) (all t xs) e) (all-every t xs (and_right (t x) (all t xs) e))

-- the same text

pub equals-path : (x y : List ℕ) → equals x y ≡ true → x ≡ y
unfolding equals
equals-path [] [] e = refl
equals-path [] (y ∷ ys) e = absurd (false≢true e)
equals-path (x ∷ xs) [] e = absurd (false≢true e)
equals-path (x ∷ xs) (y ∷ ys) e =
    ap₂ ◌∷◌ (eqb-true x y (cond-left (eqb x y) (equals xs ys) e)) (equals-path xs ys (cond-right (eqb x y) (equals xs ys) e))

pub equals-self : (x : List ℕ) → equals x x ≡ true
unfolding equals
equals-self [] = refl
equals-self (x ∷ xs) = rw (eq-eqb x x refl) (equals-self xs)

-- a test of all, as std says it
pub list_all-all : {A : Type 0} (t : A → Bool) (xs : List A) → list_all t xs ≡ all t xs
unfolding all
list_all-all t [] = refl
list_all-all t (x ∷ xs) = ap (λ b. t x && b) (list_all-all t xs)

-- `==` of two texts, as std says it
pub equals-pointwise : (x y : List ℕ) → equals x y ≡ pointwise eqb x y
unfolding equals
equals-pointwise [] [] = refl
equals-pointwise [] (y ∷ ys) = refl
equals-pointwise (x ∷ xs) [] = refl
equals-pointwise (x ∷ xs) (y ∷ ys) = both (eqb x y) ∙ ap (λ b. eqb x y && b) (equals-pointwise xs ys)
  where
    both : (b : Bool) → cond b (equals xs ys) false ≡ (b && equals xs ys)
    both true = refl
    both false = refl

-- a word among the given ones

pub among-every : {P : List ℕ → Type 0} (w : List ℕ) (ws : List (List ℕ)) → among w ws ≡ true → Every P ws → P w
unfolding among
among-every w [] e h = absurd (false≢true e)
among-every {P} w (x ∷ xs) e (more p ps) = go (equals w x) refl e (λ q. among-every w xs q ps)
  where
    go : (b : Bool) → equals w x ≡ b → cond b true (among w xs) ≡ true → (among w xs ≡ true → P w) → P w
    go true s q ih = subst P (sym (equals-path w x s)) p
    go false s q ih = ih q

-- the word at a place is one of them
pub among-at : (ws : List (List ℕ)) (k : ℕ) → k < length ws → among (get_or ws k []) ws ≡ true
unfolding among
among-at [] k h = absurd (not-suc-le-zero h)
among-at (x ∷ xs) zero h = rw (equals-self x) refl
among-at (x ∷ xs) (suc k) h = go (equals (get_or xs k []) x) (among-at xs k (le_of_suc-le-suc h))
  where
    go : (b : Bool) → among (get_or xs k []) xs ≡ true → cond b true (among (get_or xs k []) xs) ≡ true
    go true e = refl
    go false e = e

abbrev pub is_found : Option ℕ → Bool
is_found (Some k) = true
is_found None = false

pub among-place : (k : ℕ) (w : List ℕ) (ws : List (List ℕ)) → among w ws ≡ is_found (place_from k w ws)
unfolding among
among-place k w [] = refl
among-place k w (x ∷ xs) = go (equals w x) (among-place (suc k) w xs)
  where
    go : (b : Bool) → among w xs ≡ is_found (place_from (suc k) w xs) → cond b true (among w xs) ≡ is_found (cond b (Some k) (place_from (suc k) w xs))
    go true e = refl
    go false e = e

-- its place is one of theirs
pub place-below : (k : ℕ) (w : List ℕ) (ws : List (List ℕ)) {n : ℕ} → place_from k w ws ≡ Some n → n < k + length ws
place-below k w [] e = let z : ◌≡◌ {A = ℕ} 0 1 = cc in absurd (omega arith)
place-below k w (x ∷ xs) {n} e = go (equals w x) e (place-below (suc k) w xs)
  where
    go : (b : Bool) → cond b (Some k) (place_from (suc k) w xs) ≡ Some n → (place_from (suc k) w xs ≡ Some n → n < suc k + length xs) → n < k + suc (length xs)
    go true q ih = let f : k ≡ n = cc in omega arith
    go false q ih = omega (arith, ih q)

pub find-below : (w : List ℕ) (ws : List (List ℕ)) → 0 < length ws → find w ws < length ws
unfolding find
find-below w ws h = go (place_among w ws) refl
  where
    go : (p : Option ℕ) → place_among w ws ≡ p → index_of p < length ws
    go (Some k) e = omega (arith, place-below 0 w ws e)
    go None e = h

-- and there it stands
place-word : (k : ℕ) (w : List ℕ) (ws : List (List ℕ)) {n : ℕ} → place_from k w ws ≡ Some n → (k ≤ n) × (get_or ws (n - k) [] ≡ w)
place-word k w [] e = let z : ◌≡◌ {A = ℕ} 0 1 = cc in absurd (omega arith)
place-word k w (x ∷ xs) {n} e = go (equals w x) refl e (place-word (suc k) w xs)
  where
    go : (b : Bool) → equals w x ≡ b → cond b (Some k) (place_from (suc k) w xs) ≡ Some n → (place_from (suc k) w xs ≡ Some n → (suc k ≤ n) × (get_or xs (n - suc k) [] ≡ w)) → (k ≤ n) × (get_or (x ∷ xs) (n - k) [] ≡ w)
    go true s q ih = let f : k ≡ n = cc in let z : n - k ≡ 0 = omega arith in (omega arith, rw z (sym (equals-path w x s)))
    go false s q ih = let i = ih q in let z : n - k ≡ suc (n - suc k) = omega (arith, i.0) in (omega (arith, i.0), rw z i.1)

pub among-find : (w : List ℕ) (ws : List (List ℕ)) → among w ws ≡ true → (place_among w ws ≡ Some (find w ws)) × (get_or ws (find w ws) [] ≡ w)
unfolding find
among-find w ws h = go (place_among w ws) refl (sym (among-place 0 w ws) ∙ h)
  where
    go : (p : Option ℕ) → place_among w ws ≡ p → is_found p ≡ true → (p ≡ Some (index_of p)) × (get_or ws (index_of p) [] ≡ w)
    go (Some k) e q = let z : k ≡ k - 0 = omega arith in (refl, ap (λ i. get_or ws i []) z ∙ (place-word 0 w ws e).1)
    go None e q = absurd (false≢true q)

-- "those up to and with the one sought, or all of them where that one is missing"

-- the bytes of a text's pieces

onto_parts : {P : ℕ → Type 0} (x : ℕ) (ps : List (List ℕ)) → Every (Every P) (onto x ps) → P x × Every (Every P) ps
onto_parts x [] (more (more p none) none) = (p, none)
onto_parts x (w ∷ ws) (more (more p q) qs) = (p, more q qs)

pub split-every : {P : ℕ → Type 0} (c : ℕ) → P c → (text : List ℕ) → Every (Every P) (parted_by c text) → Every P text
unfolding parted_by
split-every c k [] h = none
split-every {P} c k (x ∷ xs) h = go (eqb x c) refl h (split-every c k xs)
  where
    go : (b : Bool) → eqb x c ≡ b → Every (Every P) (cond b ([] ∷ parted_by c xs) (onto x (parted_by c xs))) → (Every (Every P) (parted_by c xs) → Every P xs) → Every P (x ∷ xs)
    go true e (more p ps) ih = more (subst P (sym (eqb-true x c e)) k) (ih ps)
    go false e g ih = let t = onto_parts x (parted_by c xs) g in more t.0 (ih t.1)

-- an empty last piece is no line, and has no byte
lines_of-every : {P : ℕ → Type 0} (ps : List (List ℕ)) → Every (λ l. Every P l.text) (lines_of ps) → Every (Every P) ps
unfolding lines_of
lines_of-every [] h = none
lines_of-every ([] ∷ []) h = more none none
lines_of-every ((x ∷ xs) ∷ []) (more p none) = more p none
lines_of-every (p ∷ q ∷ ps) (more k h) = more k (lines_of-every (q ∷ ps) h)

pub lines-every : {P : ℕ → Type 0} → P 10 → (text : List ℕ) → Every (λ l. Every P l.text) (lines text) → Every P text
unfolding lines
lines-every k text h = split-every 10 k text (lines_of-every (parted_by 10 text) h)
