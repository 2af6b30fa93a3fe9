-- Laws of a part of a list that is written, and of the rows of the table: one is written, and the others stay. Assumes nothing.
use Prim.Native.Nat.{ℕ, ◌+◌, ◌*◌, ◌-◌, ◌<◌, ◌≤◌}
use mathlib.Core.Path.{◌≡◌, refl, sym, ap, ◌∙◌}
use mathlib.Core.Bool.{Bool, true, false, cond}
use mathlib.Core.List.{List, ◌++◌}
use native.Mathlib.Omega.{arith}
use lib.Dec.{eqb, ltb}
use lib.ListN.{length, take, drop, length-drop}
use lib.Seq.{length-take-le, take_at, drop_at, take-take, take-add, drop-drop}
use borrow.Rule.Slice.PartMut.{put_mid, take_put, drop_put, same_len_mid}
use borrow.Author.Tests.{eqb-true, eqb-false, eq-eqb, ne_eqb, ltb-true, ltb-false}
use Rattle.machine.specs.Machine.{reblock}
use Rattle.machine_state.specs.HeldState.{whole}
use Rattle.merge_theory.specs.Merge.{Arrival, Slot, join}
use Rattle.merge_rows.specs.declared.Way.{Way}
use Rattle.merge_rows.specs.HeldRows.{part, arrival_of, slot_in, slot_at, join_at}

above : (b k : ℕ) → (b ≡ k → ⊥) → k ≤ b → k < b
above b k n h = go (ltb k b) refl
  where
    go : (t : Bool) → ltb k b ≡ t → k < b
    go true e = ltb-true k b e
    go false e = let g = ltb-false k b e in absurd (n (omega arith))

-- a part, as the end of a list's start
as-end : (i e : ℕ) (l : List ℕ) → i ≤ e → e ≤ length l → drop i (take e l) ≡ part i e l
as-end i e l h k =
    let n : i + (e - i) ≡ e = omega arith in
    ap (λ (j : ℕ). drop i (take j l)) (sym n)
    ∙ ap (drop i) (take-add i (e - i) l)
    ∙ drop_at (take i l) (take (e - i) (drop i l)) i (length-take-le i l (omega arith))

pub part_length : (i e : ℕ) (l : List ℕ) → e ≤ length l → length (part i e l) ≡ e - i
part_length i e l h = length-take-le (e - i) (drop i l) (rw length-drop (omega arith))

-- numbers from the place m up to the place e are written, p
module _ (xs p : List ℕ) (m e : ℕ) (h : m ≤ e) (k : e ≤ length xs) (l : length p ≡ e - m) where
  abbrev put : List ℕ
  put = put_mid m (e - m) xs p

  pub part_same : length put ≡ length xs
  part_same = same_len_mid m (e - m) xs p (l ∙ sym (part_length m e xs k))

  pub part-written : part m e put ≡ p
  part-written =
      ap (take (e - m)) (drop_at (take m xs) (p ++ drop (e - m) (drop m xs)) m (length-take-le m xs (omega arith))) ∙ take_at p (drop (e - m) (drop m xs)) (e - m) l

  -- those before and after stay
  pub start-kept : (j : ℕ) → j ≤ m → take j put ≡ take j xs
  start-kept j q =
      sym (take-take j m put q) ∙ ap (take j) (take_put m (e - m) xs p (omega arith)) ∙ take-take j m xs q

  pub part-before : (i j : ℕ) → i ≤ j → j ≤ m → part i j put ≡ part i j xs
  part-before i j o q = let s = part_same in sym (as-end i j put o (omega arith)) ∙ ap (drop i) (start-kept j q) ∙ as-end i j xs o (omega arith)

  pub part-after : (i j : ℕ) → e ≤ i → part i j put ≡ part i j xs
  part-after i j q =
      let b : e + (i - e) ≡ i = omega arith in
      let past : (ys : List ℕ) → drop i ys ≡ drop (i - e) (drop e ys) = λ ys. ap (λ (n : ℕ). drop n ys) (sym b) ∙ sym (drop-drop (i - e) e ys) in
      ap (take (j - i)) (past put ∙ ap (drop (i - e)) (drop_put m e xs p h k l) ∙ sym (past xs))

-- row k of the table is written
module _ (ns : List ℕ) (first k : ℕ) (rs r : List ℕ) (few : k < 1025) (rl : length rs ≡ 201925) (rn : length r ≡ 197 * k + 197 - 197 * k) where
  abbrev rs' : List ℕ
  rs' = put_mid (197 * k) (197 * k + 197 - 197 * k) rs r

  slot-written : slot_at ns first rs' k ≡ slot_in ns (first + k) r
  unfolding slot_at
  slot-written = ap (slot_in ns (first + k)) (part-written rs r (197 * k) (197 * k + 197) (omega arith) (omega arith) rn)

  pub slot-other : (b : ℕ) → (b ≡ k → ⊥) → slot_at ns first rs' b ≡ slot_at ns first rs b
  unfolding slot_at
  slot-other b n = ap (slot_in ns (first + b)) (go (ltb b k) refl)
    where
      go : (t : Bool) → ltb b k ≡ t → part (197 * b) (197 * b + 197) rs' ≡ part (197 * b) (197 * b + 197) rs
      go true q = let g = ltb-true b k q in part-before rs r (197 * k) (197 * k + 197) (omega arith) (omega arith) rn (197 * b) (197 * b + 197) (omega arith) (omega arith)
      go false q =
          let g = above b k n (ltb-false b k q) in
          part-after rs r (197 * k) (197 * k + 197) (omega arith) (omega arith) rn (197 * b) (197 * b + 197) (omega arith)

  -- what the way that came to row k joined
  pub slot-joined : (x : Arrival) → x.state.at ≡ first + k → slot_in ns x.state.at r ≡ join (slot_in ns x.state.at (part (197 * k) (197 * k + 197) rs)) x
      → (b : ℕ) → slot_at ns first rs' b ≡ join_at (first + b) x (slot_at ns first rs b)
  unfolding join_at slot_at
  slot-joined x q j b = go (eqb b k) refl
    where
      go : (t : Bool) → eqb b k ≡ t → slot_at ns first rs' b ≡ cond (eqb (first + b) x.state.at) (join (slot_at ns first rs b) x) (slot_at ns first rs b)
      go true v =
          let z : b ≡ k = eqb-true b k v in
          rw (eq-eqb (first + b) x.state.at (omega arith), z)
          (slot-written ∙ ap (λ (i : ℕ). slot_in ns i r) (sym q) ∙ j ∙ ap (λ (i : ℕ). join (slot_in ns i (part (197 * k) (197 * k + 197) rs)) x) q)
      go false v =
          let n = eqb-false b k v in
          rw (ne_eqb (first + b) x.state.at (λ y. n (omega arith))) (slot-other b n)

-- a row, as it is lent
pub row-length : (k : ℕ) (rs : List ℕ) → k < 1025 → length rs ≡ 201925 → length (part (197 * k) (197 * k + 197) rs) ≡ 197
row-length k rs few rl = part_length (197 * k) (197 * k + 197) rs (omega arith) ∙ omega arith

-- the address of a way
pub comes-to : (ns : List ℕ) (w : Way) → (arrival_of ns w).state.at ≡ w.state.at
unfolding arrival_of whole reblock
comes-to ns w = refl

-- a way to another address
pub not-joined : (a : ℕ) (ns : List ℕ) (w : Way) (s : Slot) → (a ≡ w.state.at → ⊥) → s ≡ join_at a (arrival_of ns w) s
unfolding join_at
not-joined a ns w s n = rw (ne_eqb a (arrival_of ns w).state.at (λ e. n (e ∙ comes-to ns w))) refl

-- a way to row k, by what came back of the row that was lent
pub sent : (ns : List ℕ) (first k : ℕ) (rs r : List ℕ) (w : Way) → k < 1025 → length rs ≡ 201925 → length r ≡ length (part (197 * k) (197 * k + 197) rs) → w.state.at ≡ first + k
    → slot_in ns w.state.at r ≡ join (slot_in ns w.state.at (part (197 * k) (197 * k + 197) rs)) (arrival_of ns w)
    → (b : ℕ) → slot_at ns first (put_mid (197 * k) (197 * k + 197 - 197 * k) rs r) b ≡ join_at (first + b) (arrival_of ns w) (slot_at ns first rs b)
sent ns first k rs r w few rl l at j =
    slot-joined ns first k rs r few rl (l ∙ row-length k rs few rl ∙ omega arith) (arrival_of ns w) (comes-to ns w ∙ at)
    (ap (λ (i : ℕ). slot_in ns i r) (comes-to ns w) ∙ j ∙ ap (λ (i : ℕ). join (slot_in ns i (part (197 * k) (197 * k + 197) rs)) (arrival_of ns w)) (sym (comes-to ns w)))
