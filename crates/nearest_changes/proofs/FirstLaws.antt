-- The first of a list that passes a test, where the list is put together of others. Assumes nothing.
use Prim.Native.Nat.{ℕ, zero, suc, ◌+◌, ◌<◌, ◌≤◌}
use mathlib.Core.Path.{◌≡◌, refl, sym, ap, ◌∙◌}
use mathlib.Core.Bool.{Bool, true, false, cond}
use mathlib.Core.List.{List, [], ◌∷◌, ◌++◌, map, flat_map, append_assoc}
use mathlib.Core.Logic.{◌⊎◌, inl, inr}
use Rattle.std.specs.Prelude.{Option, Some as some, None as none}
use native.Mathlib.Omega.{arith}
use lib.Dec.{ltb}
use borrow.Author.Tests.{ltb-true, ltb-false}
use Rattle.nearest_changes.specs.Places.{from}
use Rattle.nearest_changes.specs.Changes.{first}

-- ---- lists put together

module _ {A B : Type 0} (g : A → List B) where
  pub flat_map-append : (xs ys : List A) → flat_map g (xs ++ ys) ≡ flat_map g xs ++ flat_map g ys
  unfolding flat_map
  flat_map-append [] ys = refl
  flat_map-append (x ∷ xs) ys = ap (λ l. g x ++ l) (flat_map-append xs ys) ∙ sym (append_assoc (g x) (flat_map g xs) (flat_map g ys))

pub flat_map-map : {A B C : Type 0} (g : B → List C) (f : A → B) (xs : List A) → flat_map g (map f xs) ≡ flat_map (λ x. g (f x)) xs
unfolding flat_map
flat_map-map g f [] = refl
flat_map-map g f (x ∷ xs) = ap (λ l. g (f x) ++ l) (flat_map-map g f xs)

pub from-append : (k m n : ℕ) → from k (m + n) ≡ from k m ++ from (k + m) n
unfolding from
from-append k zero n = let e : 0 + n ≡ n = omega arith in let f : k + 0 ≡ k = omega arith in rw (e, f) refl
from-append k (suc m) n =
    let e : suc m + n ≡ suc (m + n) = omega arith in
    let f : k + suc m ≡ suc k + m = omega arith in
    rw (e, f) (ap (λ l. k ∷ l) (from-append (suc k) m n))

-- ---- the first

pub not-both : {A X : Type 0} (x : A) → none ≡ some x → X
not-both x e = let z : ◌≡◌ {A = ℕ} 0 1 = cc in absurd (omega arith)

module _ {A : Type 0} (t : A → Bool) where
  pub append-first : (xs ys : List A) (x : A) → first t xs ≡ some x → first t (xs ++ ys) ≡ some x
  unfolding first
  append-first [] ys x e = not-both x e
  append-first (y ∷ xs) ys x e = go (append-first xs ys x) (t y) e
    where
      go : (first t xs ≡ some x → first t (xs ++ ys) ≡ some x) → (b : Bool) → cond b (some y) (first t xs) ≡ some x → cond b (some y) (first t (xs ++ ys)) ≡ some x
      go f true e = e
      go f false e = f e

  pub append-second : (xs ys : List A) → first t xs ≡ none → first t (xs ++ ys) ≡ first t ys
  unfolding first
  append-second [] ys e = refl
  append-second (y ∷ xs) ys e = go (append-second xs ys) (t y) e
    where
      go : (first t xs ≡ none → first t (xs ++ ys) ≡ first t ys) → (b : Bool) → cond b (some y) (first t xs) ≡ none → cond b (some y) (first t (xs ++ ys)) ≡ first t ys
      go f true e = not-both y (sym e)
      go f false e = f e

  pub append-some : (xs ys : List A) (x : A) → first t (xs ++ ys) ≡ some x → (first t xs ≡ some x) ⊎ ((first t xs ≡ none) × (first t ys ≡ some x))
  append-some xs ys x e = go (first t xs) refl
    where
      go : (o : Option A) → first t xs ≡ o → (first t xs ≡ some x) ⊎ ((first t xs ≡ none) × (first t ys ≡ some x))
      go none h = inr (h, sym (append-second xs ys h) ∙ e)
      go (some y) h = inl (h ∙ sym (append-first xs ys y h) ∙ e)

  pub append-none : (xs ys : List A) → first t (xs ++ ys) ≡ none → (first t xs ≡ none) × (first t ys ≡ none)
  append-none xs ys e = go (first t xs) refl
    where
      go : (o : Option A) → first t xs ≡ o → (first t xs ≡ none) × (first t ys ≡ none)
      go none h = (h, sym (append-second xs ys h) ∙ e)
      go (some y) h = not-both y (sym e ∙ append-first xs ys y h)

  pub none-append : (xs ys : List A) → first t xs ≡ none → first t ys ≡ none → first t (xs ++ ys) ≡ none
  none-append xs ys h k = append-second xs ys h ∙ k

  -- ---- over numbers that rise

  -- the first is found at one of them, and at none below it
  pub record Least (g : ℕ → List A) (k m : ℕ) (x : A) : Type 0 where
    pub at : ℕ
    pub above : k ≤ at
    pub below : at < k + m
    pub here : first t (g at) ≡ some x
    pub before : (j : ℕ) → k ≤ j → j < at → first t (g j) ≡ none

  module _ (g : ℕ → List A) where
    -- one number more in front
    earlier : (k j : ℕ) → first t (g k) ≡ none → (suc k ≤ j → first t (g j) ≡ none) → k ≤ j → first t (g j) ≡ none
    earlier k j h f a = go (ltb k j) refl
      where
        go : (b : Bool) → ltb k j ≡ b → first t (g j) ≡ none
        go true e = f (ltb-true k j e)
        go false e = let i : j ≡ k = omega (arith, ltb-false k j e) in rw i h

    front : (k m : ℕ) (x : A) → (first t (g k) ≡ some x) ⊎ ((first t (g k) ≡ none) × Least g (suc k) m x) → Least g k (suc m) x
    front k m x (inl h) = record { at = k; above = omega arith; below = omega arith; here = h; before = λ j a b. absurd (omega arith) }
    front k m x (inr (h, r)) =
        record {
          at = r.at;
          above = let l = r.above in omega arith;
          below = let l = r.below in omega arith;
          here = r.here;
          before = λ j a b. earlier k j h (λ c. r.before j c b) a;
        }

    pub from_some : (k m : ℕ) (x : A) → first t (flat_map g (from k m)) ≡ some x → Least g k m x
    unfolding from flat_map first
    from_some k zero x e = not-both x e
    from_some k (suc m) x e = front k m x (go (from_some (suc k) m x) (append-some (g k) (flat_map g (from (suc k) m)) x e))
      where
        go : (first t (flat_map g (from (suc k) m)) ≡ some x → Least g (suc k) m x) →
            (first t (g k) ≡ some x) ⊎ ((first t (g k) ≡ none) × (first t (flat_map g (from (suc k) m)) ≡ some x)) →
            (first t (g k) ≡ some x) ⊎ ((first t (g k) ≡ none) × Least g (suc k) m x)
        go f (inl h) = inl h
        go f (inr h) = inr (h.0, f h.1)

    pub from-none : (k m : ℕ) → first t (flat_map g (from k m)) ≡ none → (j : ℕ) → k ≤ j → j < k + m → first t (g j) ≡ none
    unfolding from flat_map
    from-none k zero e j a b = absurd (omega arith)
    from-none k (suc m) e j a b =
        let h = append-none (g k) (flat_map g (from (suc k) m)) e in
        earlier k j h.0 (λ c. from-none (suc k) m h.1 j c (omega arith)) a

    pub none_from : (k m : ℕ) → ((j : ℕ) → k ≤ j → j < k + m → first t (g j) ≡ none) → first t (flat_map g (from k m)) ≡ none
    unfolding from flat_map first
    none_from k zero h = refl
    none_from k (suc m) h =
        none-append (g k) (flat_map g (from (suc k) m)) (h k (omega arith) (omega arith)) (none_from (suc k) m (λ j a b. h j (omega arith) (omega arith)))
