-- Laws of two rows that meet: their states are merged exactly where all parts of them are. Assumes nothing.
use Prim.Native.Nat.{ℕ, suc, ◌+◌, ◌-◌, ◌<◌, ◌≤◌}
use mathlib.Core.Path.{◌≡◌, refl, sym, ap, ap₂, ◌∙◌}
use mathlib.Core.Bool.{Bool, true, false}
use mathlib.Core.List.{List, [], ◌∷◌}
use native.Mathlib.Omega.{arith}
use lib.ListN.{length, get_or, take, set, length-set}
use lib.Seq.{get_or-set_same, get_or-set_other, take-set-le, drop-set-lt}
use borrow.Rule.Slice.PartMut.{put_mid}
use Rattle.cells.specs.Try.{Try, stuck, done, ◌>>=◌}
use Rattle.cells.specs.declared.Cell.{Cell}
use Rattle.merge_cells.specs.Merge.{merge_cells}
use Rattle.merge_cells.specs.HeldCodes.{decoded_cell, decoded_cells}
use Rattle.merge_cells.proofs.CodeLaws.{cells-length}
use Rattle.machine.specs.Machine.{State}
use Rattle.machine_state.specs.HeldState.{blocks_of}
use Rattle.merge_theory.specs.Merge.{merge_lists, merge_states}
use Rattle.merge_rows.specs.HeldRows.{part, unused_of, state_in, of_blocks, of_states}
use Rattle.merge_rows.proofs.PartLaws.{part_length, part_same, part-after, start-kept}
use Rattle.merge_rows.proofs.RowLaws.{unused-most, state, made, made-start, made-state}

-- a merge by its parts
abbrev assembled : ℕ → Try Cell → Try (List Cell) → Try (List (List Cell)) → Try State
assembled n x y z = x >>= λ a. y >>= λ cs. z >>= λ bs. done (record { at = n; accu = a; stack = cs; blocks = bs })

no_stack : (n : ℕ) (x : Try Cell) (z : Try (List (List Cell))) → assembled n x stuck z ≡ stuck
unfolding ◌>>=◌
no_stack n stuck z = refl
no_stack n (done a) z = refl

no_blocks : (n : ℕ) (x : Try Cell) (y : Try (List Cell)) → assembled n x y stuck ≡ stuck
unfolding ◌>>=◌
no_blocks n stuck y = refl
no_blocks n (done a) stuck = refl
no_blocks n (done a) (done cs) = refl

-- lists of unlike lengths
dropped : {A : Type 0} (t : Try A) → (t >>= λ (z : A). stuck >>= λ (zs : List A). done (z ∷ zs)) ≡ stuck
unfolding ◌>>=◌
dropped stuck = refl
dropped (done z) = refl

lists-unlike : {A : Type 0} (f : A → A → Try A) (xs ys : List A) → (length xs ≡ length ys → ⊥) → merge_lists f xs ys ≡ stuck
unfolding merge_lists
lists-unlike f [] [] h = absurd (h refl)
lists-unlike f [] (y ∷ ys) h = refl
lists-unlike f (x ∷ xs) [] h = refl
lists-unlike {A} f (x ∷ xs) (y ∷ ys) h =
    ap (λ (t : Try (List A)). f x y >>= λ (z : A). t >>= λ (zs : List A). done (z ∷ zs)) (lists-unlike f xs ys (λ e. h (ap suc e))) ∙ dropped (f x y)

module _ (ns : List ℕ) (a b : ℕ) (r k : List ℕ) where
  -- the states of the rows r and k, and the merges of their parts
  abbrev both : Try State
  both = merge_states (state_in ns a r) (state_in ns b k)

  abbrev accus : Try Cell
  accus = merge_cells (decoded_cell (get_or r 4 0)) (decoded_cell (get_or k 4 0))

  abbrev stacks : Try (List Cell)
  stacks = merge_lists merge_cells (decoded_cells (part (5 + unused_of (get_or r 1 0)) 69 r)) (decoded_cells (part (5 + unused_of (get_or k 1 0)) 69 k))

  abbrev blocks : Try (List (List Cell))
  blocks = merge_lists (merge_lists merge_cells) (blocks_of ns (decoded_cells (part 69 197 r))) (blocks_of ns (decoded_cells (part 69 197 k)))

  by_parts : both ≡ assembled a accus stacks blocks
  unfolding merge_states state_in
  by_parts = refl

  pub accus-unlike : stuck ≡ accus → stuck ≡ both
  unfolding ◌>>=◌
  accus-unlike e = sym (by_parts ∙ ap (λ (x : Try Cell). assembled a x stacks blocks) (sym e))

  no-stacks : stuck ≡ stacks → stuck ≡ both
  no-stacks e = sym (by_parts ∙ ap (λ (y : Try (List Cell)). assembled a accus y blocks) (sym e) ∙ no_stack a accus blocks)

  pub heights-unlike : length r ≡ 197 → length k ≡ 197 → (unused_of (get_or r 1 0) ≡ unused_of (get_or k 1 0) → ⊥) → stuck ≡ both
  heights-unlike l m n =
      let f = unused_of (get_or r 1 0) in
      let g = unused_of (get_or k 1 0) in
      let f≤ : f ≤ 64 = unused-most (get_or r 1 0) in
      let g≤ : g ≤ 64 = unused-most (get_or k 1 0) in
      let height : (xs : List ℕ) (i : ℕ) → length xs ≡ 197 → length (decoded_cells (part (5 + i) 69 xs)) ≡ 69 - (5 + i) = λ xs i q. cells-length (part (5 + i) 69 xs) ∙ part_length (5 + i) 69 xs (omega arith) in
      no-stacks
      (sym
      (lists-unlike merge_cells (decoded_cells (part (5 + f) 69 r)) (decoded_cells (part (5 + g) 69 k))
      (λ e. let q : 69 - (5 + f) ≡ 69 - (5 + g) = sym (height r f l) ∙ e ∙ height k g m in n (omega arith))))

  -- where the unused places are as many, f, and x is the merged accumulator's number
  module _ (f x : ℕ) (e : f ≡ unused_of (get_or r 1 0)) (g : f ≡ unused_of (get_or k 1 0)) (l : length r ≡ 197) where
    few : f ≤ 64
    few = rw e (unused-most (get_or r 1 0))

    part-set : (i j : ℕ) → 4 < i → part i j (set r 4 x) ≡ part i j r
    part-set i j h = ap (take (j - i)) (drop-set-lt i r 4 x h)

    -- the merge of the stacks, as parts that are lent
    abbrev lent : Try (List Cell)
    lent = merge_lists merge_cells (decoded_cells (part (5 + f) 69 (set r 4 x))) (decoded_cells (part (5 + f) 69 k))

    as_lent : lent ≡ stacks
    as_lent =
        ap (λ (ys : List ℕ). merge_lists merge_cells (decoded_cells ys) (decoded_cells (part (5 + f) 69 k))) (part-set (5 + f) 69 (omega arith))
        ∙ ap₂ (λ (i j : ℕ). merge_lists merge_cells (decoded_cells (part (5 + i) 69 r)) (decoded_cells (part (5 + j) 69 k))) e g

    pub stacks-unlike : stuck ≡ lent → stuck ≡ both
    stacks-unlike q = no-stacks (q ∙ as_lent)

    -- the merged stack, with the numbers p
    module _ (p : List ℕ) (pl : length p ≡ 69 - (5 + f)) where
      abbrev stacked : List ℕ
      stacked = put_mid (5 + f) (69 - (5 + f)) (set r 4 x) p

      pub stacked-length : length stacked ≡ 197
      stacked-length = part_same (set r 4 x) p (5 + f) 69 (omega (arith, few)) (rw length-set (omega arith)) pl ∙ rw length-set l

      pub stacked-start : take 4 stacked ≡ take 4 r
      stacked-start =
          start-kept (set r 4 x) p (5 + f) 69 (omega (arith, few)) (rw length-set (omega arith)) pl 4 (omega arith) ∙ take-set-le 4 r 4 x (omega arith)

      -- the merge of the blocks, as parts that are lent
      abbrev blocks-lent : Try (List (List Cell))
      blocks-lent = merge_lists (merge_lists merge_cells) (blocks_of ns (decoded_cells (part 69 197 stacked))) (blocks_of ns (decoded_cells (part 69 197 k)))

      as-blocks : blocks-lent ≡ blocks
      as-blocks =
          ap (λ (ys : List ℕ). merge_lists (merge_lists merge_cells) (blocks_of ns (decoded_cells ys)) (blocks_of ns (decoded_cells (part 69 197 k))))
          (part-after (set r 4 x) p (5 + f) 69 (omega (arith, few)) (rw length-set (omega arith)) pl 69 197 (omega arith) ∙ part-set 69 197 (omega arith))

      -- the merged state, with the numbers q for the fields
      module _ (q : List ℕ) (ql : length q ≡ 128) where
        abbrev merged-row : List ℕ
        merged-row = made (set r 4 x) p q f

        abbrev merged-state : State
        merged-state = state a (decoded_cell x) (decoded_cells p) (blocks_of ns (decoded_cells q))

        parts-made : done (decoded_cell x) ≡ accus → done (decoded_cells p) ≡ lent → done (blocks_of ns (decoded_cells q)) ≡ blocks → assembled a accus stacks blocks ≡ done merged-state
        unfolding ◌>>=◌
        parts-made u v w =
            ap (λ (c : Try Cell). assembled a c stacks blocks) (sym u)
            ∙ ap (λ (c : Try (List Cell)). assembled a (done (decoded_cell x)) c blocks) (sym (v ∙ as_lent))
            ∙ ap (λ (c : Try (List (List Cell))). assembled a (done (decoded_cell x)) (done (decoded_cells p)) c) (sym w)

        state-merged : state_in ns a merged-row ≡ merged-state
        state-merged =
            made-state (set r 4 x) p q f (rw length-set l) few pl ql ns a (ap unused_of (get_or-set_other r 4 1 x 0 (λ z. omega arith)) ∙ sym e)
            ∙ ap (λ (c : ℕ). state a (decoded_cell c) (decoded_cells p) (blocks_of ns (decoded_cells q))) (get_or-set_same r 4 x 0 (omega arith))

        pub rows-merged : (t : Bool) → done (decoded_cell x) ≡ accus → done (decoded_cells p) ≡ lent → of_blocks ns t q ≡ blocks-lent → of_states ns a t merged-row ≡ both
        rows-merged false u v w =
            sym (by_parts ∙ ap (λ (z : Try (List (List Cell))). assembled a accus stacks z) (sym (w ∙ as-blocks)) ∙ no_blocks a accus stacks)
        rows-merged true u v w = ap done state-merged ∙ sym (parts-made u v (w ∙ as-blocks)) ∙ sym by_parts

        pub start-merged : take 4 merged-row ≡ take 4 r
        start-merged = made-start (set r 4 x) p q f (rw length-set l) few pl ql 4 (omega arith) ∙ take-set-le 4 r 4 x (omega arith)

        pub merged-length : length merged-row ≡ 197
        merged-length = part_same stacked q 69 197 (omega arith) (omega (arith, stacked-length)) ql ∙ stacked-length
