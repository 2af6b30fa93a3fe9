-- Laws of two lists of one length that a loop merges entry by entry, each result in the place of the first list's entry. Assumes nothing.
use Prim.Native.Nat.{ℕ, suc, ◌+◌, ◌<◌}
use mathlib.Core.Path.{◌≡◌, refl, sym, ap, ap₂, ◌∙◌}
use mathlib.Core.List.{List, [], ◌∷◌, ◌++◌, append-nil}
use native.Mathlib.Omega.{arith}
use native.Mathlib.Numerals.{add-one}
use lib.ListN.{length, get_or, take, drop, set}
use lib.Seq.{take_all, take-suc-set, drop-cons, drop-set-lt, append_snoc, drop-length}
use Rattle.cells.specs.Try.{Try, stuck, done, ◌>>=◌}
use Rattle.merge_theory.specs.Merge.{merge_lists}

module _ {A : Type 0} where
  -- what is left of a merge, after entries that are merged
  unfoldable pub onto : List A → Try (List A) → Try (List A)
  onto cs t = t >>= λ zs. done (cs ++ zs)

  onto-none : (t : Try (List A)) → t ≡ onto [] t
  unfolding onto ◌>>=◌
  onto-none stuck = refl
  onto-none (done zs) = refl

  onto-more : (cs : List A) (c : A) (t : Try (List A)) → onto cs (t >>= λ zs. done (c ∷ zs)) ≡ onto (cs ++ (c ∷ [])) t
  unfolding onto ◌>>=◌
  onto-more cs c stuck = refl
  onto-more cs c (done zs) = ap done (sym (append_snoc cs c zs))

module _ {A : Type 0} (f : A → A → Try A) (d : A) where
  -- of the merge of two lists the first i entries are made, and stand in the first list
  abbrev pub Partly : Try (List A) → ℕ → List A → List A → Type 0
  Partly whole i xs ys = whole ≡ onto (take i xs) (merge_lists f (drop i xs) (drop i ys))

  pub none_made : (xs ys : List A) → Partly (merge_lists f xs ys) 0 xs ys
  none_made xs ys = onto-none (merge_lists f xs ys)

  next : (xs ys : List A) (i : ℕ) → i < length xs → i < length ys
      → merge_lists f (drop i xs) (drop i ys) ≡ (f (get_or xs i d) (get_or ys i d) >>= λ z. merge_lists f (drop (suc i) xs) (drop (suc i) ys) >>= λ zs. done (z ∷ zs))
  unfolding merge_lists
  next xs ys i h k = ap₂ (merge_lists f) (drop-cons xs i d h) (drop-cons ys i d k)

  -- the entries at i are merged
  pub one-made : (w : Try (List A)) (xs ys : List A) (i : ℕ) (z : A) → i < length xs → i < length ys → done z ≡ f (get_or xs i d) (get_or ys i d)
      → Partly w i xs ys → Partly w (i + 1) (set xs i z) ys
  unfolding ◌>>=◌
  one-made w xs ys i z h k e p =
      rw add-one
      (p
      ∙ ap (onto (take i xs)) (next xs ys i h k ∙ ap (λ (t : Try A). t >>= λ c. merge_lists f (drop (suc i) xs) (drop (suc i) ys) >>= λ zs. done (c ∷ zs)) (sym e))
      ∙ onto-more (take i xs) z (merge_lists f (drop (suc i) xs) (drop (suc i) ys))
      ∙ ap₂
      (λ (l r : List A). onto l (merge_lists f r (drop (suc i) ys)))
      (sym (take-suc-set xs i z h))
      (sym (drop-set-lt (suc i) xs i z (omega arith))))

  -- the entries at i cannot be merged
  pub none-merged : (w : Try (List A)) (xs ys : List A) (i : ℕ) → i < length xs → i < length ys → stuck ≡ f (get_or xs i d) (get_or ys i d) → Partly w i xs ys → w ≡ stuck
  unfolding onto ◌>>=◌
  none-merged w xs ys i h k e p =
      p
      ∙ ap (onto (take i xs)) (next xs ys i h k ∙ ap (λ (t : Try A). t >>= λ c. merge_lists f (drop (suc i) xs) (drop (suc i) ys) >>= λ zs. done (c ∷ zs)) (sym e))

  -- all are
  pub all_made : (w : Try (List A)) (xs ys : List A) (i : ℕ) → length xs ≡ i → length ys ≡ i → Partly w i xs ys → w ≡ done xs
  unfolding onto merge_lists ◌>>=◌
  all_made w xs ys i h k p =
      let nothing : (l : List A) → length l ≡ i → drop i l ≡ [] = λ l e. ap (λ (n : ℕ). drop n l) (sym e) ∙ drop-length l in
      p
      ∙ ap₂ (λ (l r : List A). onto (take i xs) (merge_lists f l r)) (nothing xs h) (nothing ys k)
      ∙ ap done (append-nil (take i xs) ∙ take_all i xs (omega arith))
