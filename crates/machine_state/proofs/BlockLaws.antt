-- Fields of blocks that lie in one flat array, sixteen places to a block. Assumes nothing.
use mathlib.Core.Path.{◌≡◌, refl, sym, ap, ◌∙◌}
use mathlib.Core.Bool.{Bool, true, false, cond}
use mathlib.Core.List.{List, [], ◌∷◌}
use Prim.Native.Nat.{ℕ, zero, suc, ◌+◌, ◌*◌, ◌≤◌, ◌<◌}
use native.Mathlib.Omega.{arith}
use lib.Dec.{ltb}
use lib.ListN.{length, get_or, take, drop, set, length-take, length-drop}
use lib.Seq.{drop-drop, get_or-take, get_or-drop, take-set-lt, take-set-le, drop-set-lt, drop-set-add}
use borrow.Author.Tests.{ltb-true, ltb-false}
use Rattle.cells.specs.Try.{Try, stuck, done, ◌>>=◌}
use Rattle.cells.specs.declared.Cell.{Cell}
use Rattle.cells.specs.Cells.{block}
use Rattle.machine.specs.Lists.{nth, put}
use Rattle.machine.specs.Machine.{State, get_field, set_field, reblock}
use Rattle.machine_state.specs.HeldState.{blocks_of, slot, Fits}
use Rattle.machine.proofs.ListLaws.{nth_in, nth-out, put_in, put-out}

-- the sizes after the first, and the array after its first sixteen places
rest-fits : (n : ℕ) (ns : List ℕ) (fs : List Cell) → Fits (n ∷ ns) fs → Fits ns (drop 16 fs)
rest-fits n ns fs f = record { few = λ k. f.few (suc k); room = simp length-drop (omega (arith, f.room)) }

-- block k

block_in : (k : ℕ) (ns : List ℕ) (fs : List Cell) → k < length ns → nth k (blocks_of ns fs) ≡ done (take (get_or ns k 0) (drop (k * 16) fs))
unfolding nth blocks_of
block_in k [] fs h = absurd (omega arith)
block_in zero (n ∷ ns) fs h = refl
block_in (suc k) (n ∷ ns) fs h =
    let e : 16 + k * 16 ≡ suc k * 16 = omega arith in
    block_in k ns (drop 16 fs) (omega arith) ∙ ap (λ xs. done (take (get_or ns k 0) xs)) (drop-drop (k * 16) 16 fs ∙ ap (λ j. drop j fs) e)

block_out : (k : ℕ) (ns : List ℕ) (fs : List Cell) → length ns ≤ k → nth k (blocks_of ns fs) ≡ stuck
unfolding nth blocks_of
block_out k [] fs h = refl
block_out zero (n ∷ ns) fs h = absurd (omega arith)
block_out (suc k) (n ∷ ns) fs h = block_out k ns (drop 16 fs) (omega arith)

-- a block with one field set is the array with one place set
block-set : (k n : ℕ) (c : Cell) (ns : List ℕ) (fs : List Cell) → Fits ns fs → k < length ns → n < get_or ns k 0 →
    put k (set (take (get_or ns k 0) (drop (k * 16) fs)) n c) (blocks_of ns fs) ≡ done (blocks_of ns (set fs (k * 16 + n) c))
unfolding put blocks_of ◌>>=◌
block-set k n c [] fs f h l = absurd (omega arith)
block-set zero n c (m ∷ ns) fs f h l =
    let e : 0 * 16 + n ≡ n = omega arith in
    rw (e, take-set-lt m fs n c l, drop-set-lt 16 fs n c (omega (arith, f.few 0))) refl
block-set (suc k) n c (m ∷ ns) fs f h l =
    let e : suc k * 16 + n ≡ 16 + (k * 16 + n) = omega arith in
    let g : suc k * 16 ≡ 16 + k * 16 = omega arith in
    let d : drop (suc k * 16) fs ≡ drop (k * 16) (drop 16 fs) = ap (λ j. drop j fs) g ∙ sym (drop-drop (k * 16) 16 fs) in
    rw (d, e, take-set-le m fs (16 + (k * 16 + n)) c (omega (arith, f.few 0)), drop-set-add 16 fs (k * 16 + n) c, block-set k n c ns (drop 16 fs) (rest-fits m ns fs f) (omega arith) l) refl

module _ (ns : List ℕ) (fs : List Cell) (f : Fits ns fs) where
  -- block k has its size
  block-length : (k : ℕ) → k < length ns → length (take (get_or ns k 0) (drop (k * 16) fs)) ≡ get_or ns k 0
  block-length k h = simp (length-take, length-drop) (omega (arith, f.few k, f.room))

  module _ (s : State) (is : s.blocks ≡ blocks_of ns fs) (n : ℕ) where
    pub get_field-slot : (d : Cell) → get_field n s ≡ (slot ns s.accu n >>= λ j. done (get_or fs j d))
    unfolding get_field slot ◌>>=◌
    get_field-slot d = rw is (go (block s.accu))
      where
        read : (k : ℕ) → k < length ns → (b : Bool) → ltb n (get_or ns k 0) ≡ b →
            nth n (take (get_or ns k 0) (drop (k * 16) fs)) ≡ (cond b (done (k * 16 + n)) stuck >>= λ j. done (get_or fs j d))
        read k h true e =
            let l = ltb-true n (get_or ns k 0) e in
            let b = block-length k h in
            nth_in n (take (get_or ns k 0) (drop (k * 16) fs)) d (omega arith) ∙ ap done (get_or-take (get_or ns k 0) (drop (k * 16) fs) n d l ∙ get_or-drop (k * 16) fs n d)
        read k h false e =
            let l = ltb-false n (get_or ns k 0) e in
            let b = block-length k h in
            nth-out n (take (get_or ns k 0) (drop (k * 16) fs)) (omega arith)

        inside : (k : ℕ) → (b : Bool) → ltb k (length ns) ≡ b →
            (nth k (blocks_of ns fs) >>= λ b. nth n b) ≡ (cond b (cond (ltb n (get_or ns k 0)) (done (k * 16 + n)) stuck) stuck >>= λ j. done (get_or fs j d))
        inside k true e = let h = ltb-true k (length ns) e in rw (block_in k ns fs h) (read k h (ltb n (get_or ns k 0)) refl)
        inside k false e = rw (block_out k ns fs (ltb-false k (length ns) e)) refl

        go : (m : Try ℕ) → (m >>= λ k. nth k (blocks_of ns fs) >>= λ b. nth n b)
            ≡ ((m >>= λ k. cond (ltb k (length ns)) (cond (ltb n (get_or ns k 0)) (done (k * 16 + n)) stuck) stuck) >>= λ j. done (get_or fs j d))
        go stuck = refl
        go (done k) = inside k (ltb k (length ns)) refl

    pub set_field-slot : (c : Cell) → set_field n c s ≡ (slot ns s.accu n >>= λ j. done (reblock (blocks_of ns (set fs j c)) s))
    unfolding set_field slot ◌>>=◌ reblock
    set_field-slot c = rw is (go (block s.accu))
      where
        write : (k : ℕ) → k < length ns → (b : Bool) → ltb n (get_or ns k 0) ≡ b →
            (put n c (take (get_or ns k 0) (drop (k * 16) fs)) >>= λ b. put k b (blocks_of ns fs) >>= λ bs. done (reblock bs s))
            ≡ (cond b (done (k * 16 + n)) stuck >>= λ j. done (reblock (blocks_of ns (set fs j c)) s))
        write k h true e =
            let l = ltb-true n (get_or ns k 0) e in
            let b = block-length k h in
            rw (put_in n c (take (get_or ns k 0) (drop (k * 16) fs)) (omega arith), block-set k n c ns fs f h l) refl
        write k h false e =
            let l = ltb-false n (get_or ns k 0) e in
            let b = block-length k h in
            rw (put-out n c (take (get_or ns k 0) (drop (k * 16) fs)) (omega arith)) refl

        inside : (k : ℕ) → (b : Bool) → ltb k (length ns) ≡ b →
            (nth k (blocks_of ns fs) >>= λ b. put n c b >>= λ b. put k b (blocks_of ns fs) >>= λ bs. done (reblock bs s))
            ≡ (cond b (cond (ltb n (get_or ns k 0)) (done (k * 16 + n)) stuck) stuck >>= λ j. done (reblock (blocks_of ns (set fs j c)) s))
        inside k true e = let h = ltb-true k (length ns) e in rw (block_in k ns fs h) (write k h (ltb n (get_or ns k 0)) refl)
        inside k false e = rw (block_out k ns fs (ltb-false k (length ns) e)) refl

        go : (m : Try ℕ) → (m >>= λ k. nth k (blocks_of ns fs) >>= λ b. put n c b >>= λ b. put k b (blocks_of ns fs) >>= λ bs. done (reblock bs s))
            ≡ ((m >>= λ k. cond (ltb k (length ns)) (cond (ltb n (get_or ns k 0)) (done (k * 16 + n)) stuck) stuck) >>= λ j. done (reblock (blocks_of ns (set fs j c)) s))
        go stuck = refl
        go (done k) = inside k (ltb k (length ns)) refl

  -- a slot is a place of the array
  pub slot-below : (a : Cell) (n j : ℕ) → slot ns a n ≡ done j → j < length ns * 16
  unfolding slot ◌>>=◌
  slot-below a n j e = go (block a) e
    where
      room : (k : ℕ) → k < length ns → (b : Bool) → ltb n (get_or ns k 0) ≡ b → cond b (done (k * 16 + n)) stuck ≡ done j → j < length ns * 16
      room k h true l e = let g : k * 16 + n ≡ j = cc in omega (arith, ltb-true n (get_or ns k 0) l, f.few k)
      room k h false l e = let z : ◌≡◌ {A = ℕ} 0 1 = cc in absurd (omega arith)

      inside : (k : ℕ) (b : Bool) → ltb k (length ns) ≡ b → cond b (cond (ltb n (get_or ns k 0)) (done (k * 16 + n)) stuck) stuck ≡ done j → j < length ns * 16
      inside k true h e = room k (ltb-true k (length ns) h) (ltb n (get_or ns k 0)) refl e
      inside k false h e = let z : ◌≡◌ {A = ℕ} 0 1 = cc in absurd (omega arith)

      go : (m : Try ℕ) → (m >>= λ k. cond (ltb k (length ns)) (cond (ltb n (get_or ns k 0)) (done (k * 16 + n)) stuck) stuck) ≡ done j → j < length ns * 16
      go stuck e = let z : ◌≡◌ {A = ℕ} 0 1 = cc in absurd (omega arith)
      go (done k) e = inside k (ltb k (length ns)) refl e
