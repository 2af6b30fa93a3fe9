-- What is kept of the search for the prices of kinds. Assumes nothing.
use Rattle.std.specs.Prelude.{Some}
use Prim.Native.Nat.{ℕ, ◌<◌}
use mathlib.Core.Path.{◌≡◌, refl, sym, ap, ◌∙◌}
use mathlib.Core.Bool.{Bool, true, false, cond}
use mathlib.Core.List.{List, []}
use mathlib.Core.Logic.{◌⊎◌, inl, inr, ⊎_elim}
use native.Mathlib.Omega.{arith}
use lib.Dec.{eqb}
use lib.ListN.{length, get_or, set, length-set, replicate, get_or-replicate}
use lib.Seq.{get_or-set_same, get_or-set_other}
use borrow.Author.Tests.{eqb-true, eqb-false}
use Rattle.text.specs.Text.{place_among, among}
use Rattle.instructions.specs.Kinds.{kind_names}
use Rattle.instructions.proofs.ColumnLaws.{kind-below}
use Rattle.file_code.specs.HeldCode.{PricesKept}
use Rattle.file_lines.proofs.KindLaws.{word-found}

one-is : (b : Bool) → eqb (cond b 1 2) 1 ≡ b
one-is true = refl
one-is false = refl

module _ (ks : List (List ℕ)) (kept : List ℕ) (s : PricesKept ks kept) (w : List ℕ) {k : ℕ} (q : place_among w kind_names ≡ Some k) where
  pub place-low : k < 61
  place-low = kind-below w q

  -- what is kept is what the search finds
  pub kept-known : {n : ℕ} → n ≡ get_or kept k 0 → 0 < n → eqb n 1 ≡ among w ks
  kept-known {n} i h =
      ⊎_elim (λ (e : get_or kept k 0 ≡ 0). absurd (omega arith))
      (λ (e : get_or kept k 0 ≡ cond (among (get_or kind_names k []) ks) 1 2).
      ap (λ x. eqb x 1) (i ∙ e) ∙ one-is (among (get_or kind_names k []) ks) ∙ ap (λ v. among v ks) (word-found w q)) (s.found k place-low)

  -- and what it finds is kept
  pub kept_more : {x : ℕ} → x ≡ cond (among w ks) 1 2 → PricesKept ks (set kept k x)
  kept_more {x} e = record { size = simp length-set s.size; found = λ j h. go j h (eqb j k) refl }
    where
      go : (j : ℕ) → j < 61 → (b : Bool) → eqb j k ≡ b → (get_or (set kept k x) j 0 ≡ 0) ⊎ (get_or (set kept k x) j 0 ≡ cond (among (get_or kind_names j []) ks) 1 2)
      go j h true i =
          let z : j ≡ k = eqb-true j k i in
          let l : k < length kept = omega (arith, s.size, place-low) in
          inr (ap (λ m. get_or (set kept k x) m 0) z ∙ get_or-set_same kept k x 0 l ∙ e ∙ ap (λ v. cond (among v ks) 1 2) (sym (word-found w q) ∙ ap (λ m. get_or kind_names m []) (sym z)))
      go j h false i =
          let o : get_or (set kept k x) j 0 ≡ get_or kept j 0 = get_or-set_other kept k j x 0 (eqb-false j k i) in
          ⊎_elim (λ (y : get_or kept j 0 ≡ 0). inl (o ∙ y)) (λ (y : get_or kept j 0 ≡ cond (among (get_or kind_names j []) ks) 1 2). inr (o ∙ y)) (s.found j h)

-- at first nothing is kept

pub none-kept-yet : (ks : List (List ℕ)) → PricesKept ks (replicate 61 0)
none-kept-yet ks = record { size = refl; found = λ k h. inl (get_or-replicate 61 k 0 0 h) }
