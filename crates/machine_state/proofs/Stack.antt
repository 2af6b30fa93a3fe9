-- A stack that lies at the end of an array, the top entry first: its entries are `drop free` of the array. Assumes nothing.
use mathlib.Core.Path.{◌≡◌, refl, sym, ap, ◌∙◌}
use mathlib.Core.List.{List, [], ◌∷◌, map}
use Prim.Native.Nat.{ℕ, zero, suc, ◌-◌, ◌≤◌, ◌<◌}
use native.Mathlib.Nat.{le_of_suc-le-suc, not-suc-le-zero}
use native.Mathlib.Omega.{arith}
use lib.ListN.{length, drop, set, length-map}

module _ {ℓ} {A : Type ℓ} where
  -- a store at the place of the top
  drop-set-here : (l : List A) (i : ℕ) (a : A) → i < length l → drop i (set l i a) ≡ a ∷ drop (suc i) l
  drop-set-here [] i a h = absurd (not-suc-le-zero h)
  drop-set-here (x ∷ xs) zero a h = refl
  drop-set-here (x ∷ xs) (suc i) a h = drop-set-here xs i a (le_of_suc-le-suc h)

  -- one more entry, stored in the place before the top
  pub drop-push : (l : List A) (f : ℕ) (a : A) → 0 < f → f ≤ length l → drop (f - 1) (set l (f - 1) a) ≡ a ∷ drop f l
  drop-push l f a p h =
      let e : suc (f - 1) ≡ f = omega arith in
      drop-set-here l (f - 1) a (omega arith) ∙ ap (λ (k : ℕ). a ∷ drop k l) e

-- an array of structs has its length, which is known of the list's image
pub length-images : (A B : Type 0) (f : A → B) (l : List A) (n : ℕ) → length (map f l) ≡ n → length l ≡ n
length-images A B f l n e = sym (length-map l f) ∙ e
