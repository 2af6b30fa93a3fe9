-- Laws of blocks: in sixteen places each of one flat array, and block after block in a list of cells. Assumes nothing.
use Prim.Native.Nat.{ℕ, zero, suc, ◌+◌, ◌*◌, ◌<◌, ◌≤◌}
use mathlib.Core.Path.{◌≡◌, refl, sym, ap, ap₂, ◌∙◌}
use mathlib.Core.List.{List, [], ◌∷◌, ◌++◌}
use native.Mathlib.Omega.{arith}
use native.Mathlib.Numerals.{add-one}
use lib.ListN.{length, get_or, take, drop}
use lib.Seq.{take-suc, take-take, take-nil, drop-drop, length-take-le, get_or-take}
use Rattle.cells.specs.declared.Cell.{Cell}
use Rattle.machine_state.specs.HeldState.{blocks_of}
use Rattle.file_format.specs.Rows.{total}
use Rattle.file_format.specs.Routine.{blocks_in_line}
use Rattle.file_names.proofs.BlockLaws.{small-total}

-- one more block

places-snoc : (ns : List ℕ) (n : ℕ) (fs : List Cell) → blocks_of (ns ++ (n ∷ [])) fs ≡ blocks_of ns fs ++ (take n (drop (length ns * 16) fs) ∷ [])
unfolding blocks_of
places-snoc [] n fs = refl
places-snoc (m ∷ ns) n fs =
    let e : 16 + length ns * 16 ≡ suc (length ns) * 16 = omega arith in
    ap (λ (bs : List (List Cell)). take m fs ∷ bs)
    (places-snoc ns n (drop 16 fs) ∙ ap (λ (l : List Cell). blocks_of ns (drop 16 fs) ++ (take n l ∷ [])) (drop-drop (length ns * 16) 16 fs ∙ ap (λ (k : ℕ). drop k fs) e))

line-snoc : (ns : List ℕ) (n : ℕ) (cs : List Cell) → blocks_in_line (ns ++ (n ∷ [])) cs ≡ blocks_in_line ns cs ++ (take n (drop (total ns) cs) ∷ [])
unfolding blocks_in_line total
line-snoc [] n cs = refl
line-snoc (m ∷ ns) n cs =
    ap (λ (bs : List (List Cell)). take m cs ∷ bs)
    (line-snoc ns n (drop m cs) ∙ ap (λ (l : List Cell). blocks_in_line ns (drop m cs) ++ (take n l ∷ [])) (drop-drop (total ns) m cs))

-- blocks of at most sixteen fields are those of the places that they lie in

take_more : (m : ℕ) (fs gs : List Cell) (k : ℕ) → m ≤ k → take k fs ≡ take k gs → take m fs ≡ take m gs
take_more m fs gs k h e = sym (take-take m k fs h) ∙ ap (take m) e ∙ take-take m k gs h

drop-same : (m k : ℕ) (fs gs : List Cell) → take (m + k) fs ≡ take (m + k) gs → take k (drop m fs) ≡ take k (drop m gs)
drop-same m k fs gs e = sym (go m k fs) ∙ ap (drop m) e ∙ go m k gs
  where
    go : (m k : ℕ) (fs : List Cell) → drop m (take (m + k) fs) ≡ take k (drop m fs)
    go zero k fs = let e : 0 + k ≡ k = omega arith in ap (λ (j : ℕ). take j fs) e
    go (suc m) k [] = ap (drop (suc m)) (take-nil (suc m + k)) ∙ sym (take-nil k)
    go (suc m) k (f ∷ fs) = let e : suc m + k ≡ suc (m + k) = omega arith in ap (λ (j : ℕ). drop (suc m) (take j (f ∷ fs))) e ∙ go m k fs

places_same : (ns : List ℕ) (fs gs : List Cell) → ((k : ℕ) → get_or ns k 0 ≤ 16) → take (length ns * 16) fs ≡ take (length ns * 16) gs → blocks_of ns fs ≡ blocks_of ns gs
unfolding blocks_of
places_same [] fs gs h e = refl
places_same (n ∷ ns) fs gs h e =
    let q : suc (length ns) * 16 ≡ 16 + length ns * 16 = omega arith in
    let e' : take (16 + length ns * 16) fs ≡ take (16 + length ns * 16) gs = ap (λ (k : ℕ). take k fs) (sym q) ∙ e ∙ ap (λ (k : ℕ). take k gs) q in
    ap₂ (λ (b : List Cell) (bs : List (List Cell)). b ∷ bs)
    (take_more n fs gs (16 + length ns * 16) (omega (arith, h 0)) e')
    (places_same ns (drop 16 fs) (drop 16 gs) (λ k. h (suc k)) (drop-same 16 (length ns * 16) fs gs e'))

-- sizes, of which the first k are passed

few-take : (l : List ℕ) (k : ℕ) → ((j : ℕ) → get_or l j 0 ≤ 16) → (j : ℕ) → get_or (take k l) j 0 ≤ 16
few-take l zero h j = omega arith
few-take [] (suc k) h j = omega arith
few-take (x ∷ l) (suc k) h zero = h 0
few-take (x ∷ l) (suc k) h (suc j) = few-take l k (λ i. h (suc i)) j

total-take : (l : List ℕ) (k : ℕ) → total (take k l) ≤ total l
unfolding total
total-take l zero = omega arith
total-take [] (suc k) = omega arith
total-take (x ∷ l) (suc k) = omega (arith, total-take l k)

total-suc : (l : List ℕ) (k : ℕ) → k < length l → total (take (k + 1) l) ≡ total (take k l) + get_or l k 0
unfolding total
total-suc [] k h = absurd (omega arith)
total-suc (x ∷ l) zero h = omega arith
total-suc (x ∷ l) (suc k) h = let e : suc k + 1 ≡ suc (k + 1) = omega arith in rw e (omega (arith, total-suc l k (omega arith)))

module _ (sizes : List ℕ) (count : ℕ) (few : (k : ℕ) → get_or (take count sizes) k 0 ≤ 16) (k : ℕ) (h : k < count) (r : k < length sizes) where
  -- the cells passed with the next block, and those of all blocks
  pub passed-more : total (take (k + 1) sizes) ≡ total (take k sizes) + get_or sizes k 0
  passed-more = total-suc sizes k r

  pub passed-within : total (take k sizes) + get_or sizes k 0 ≤ total (take count sizes)
  passed-within =
      let e : take (k + 1) (take count sizes) ≡ take (k + 1) sizes = take-take (k + 1) count sizes (omega arith) in
      omega (arith, passed-more, ap total e, total-take (take count sizes) (k + 1))

  first-few : (j : ℕ) → get_or (take k sizes) j 0 ≤ 16
  first-few = rw (take-take k count sizes (omega arith)) at (few-take (take count sizes) k few)

  pub passed-few : total (take k sizes) ≤ k * 16
  passed-few = omega (arith, small-total k (take count sizes) few, ap total (take-take k count sizes (omega arith)))

  pub block-few : get_or sizes k 0 ≤ 16
  block-few = rw (get_or-take count sizes k 0 h) at (few k)

  pub blocks_more : (fs gs cs : List Cell) → take (k * 16) gs ≡ take (k * 16) fs → take (get_or sizes k 0) (drop (k * 16) gs) ≡ take (get_or sizes k 0) (drop (total (take k sizes)) cs)
      → blocks_of (take k sizes) fs ≡ blocks_in_line (take k sizes) cs → blocks_of (take (k + 1) sizes) gs ≡ blocks_in_line (take (k + 1) sizes) cs
  blocks_more fs gs cs a b e =
      let l : length (take k sizes) ≡ k = length-take-le k sizes (omega arith) in
      let a' : take (length (take k sizes) * 16) gs ≡ take (length (take k sizes) * 16) fs = rw l a in
      let b' : take (get_or sizes k 0) (drop (length (take k sizes) * 16) gs) ≡ take (get_or sizes k 0) (drop (total (take k sizes)) cs) = rw l b in
      rw (add-one, take-suc sizes k 0 r)
      (places-snoc (take k sizes) (get_or sizes k 0) gs
      ∙ ap₂ (λ (bs : List (List Cell)) (c : List Cell). bs ++ (c ∷ [])) (places_same (take k sizes) gs fs first-few a' ∙ e) b'
      ∙ sym (line-snoc (take k sizes) (get_or sizes k 0) cs))
