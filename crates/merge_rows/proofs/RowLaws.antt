-- Laws of a row: what it holds once it is written, and what is read of it. Assumes nothing.
use Prim.Native.Nat.{ℕ, zero, suc, ◌+◌, ◌-◌, ◌<◌, ◌≤◌, max}
use mathlib.Core.Path.{◌≡◌, refl, sym, ap, ap₂, ◌∙◌}
use mathlib.Core.Bool.{Bool, true, false, cond}
use mathlib.Core.List.{List, [], ◌∷◌, map}
use native.Mathlib.Omega.{arith}
use lib.Dec.{ltb}
use lib.ListN.{length, get_or, take, drop, set, length-set}
use lib.Seq.{get_or-take, get_or-set_same, get_or-set_other, drop-set-lt}
use borrow.Rule.Slice.PartMut.{put_mid}
use borrow.Author.Tests.{ltb-true, ltb-false}
use Rattle.cells.specs.Try.{Try, stuck, done}
use Rattle.cells.specs.declared.Cell.{Cell}
use Rattle.merge_cells.specs.HeldCodes.{decoded_cell, decoded_cells}
use Rattle.cells.specs.HeldConfined.{confine, Kept}
use Rattle.cells.specs.Order.{Pointwise, end, cons}
use Rattle.merge_cells.proofs.CodeLaws.{cells-length, code-confined, codes-kept, kept-all}
use Rattle.cells.proofs.CellLaws.{kept_self}
use Rattle.machine.specs.Machine.{State, Price, reblock}
use Rattle.machine_state.specs.HeldState.{blocks_of, whole}
use Rattle.merge_theory.specs.Merge.{Arrival, arrival, Slot, empty, unlike, held, larger, merge_states, settle, join}
use Rattle.merge_rows.specs.declared.Way.{Way}
use Rattle.merge_rows.specs.HeldRows.{Formed, Numeric, part, unused_of, arrival_of, state_in, price_in, arrival_in, marked, slot_in}
use Rattle.merge_rows.proofs.FieldLaws.{blocks-map}
use Rattle.merge_rows.proofs.PartLaws.{part_length, part_same, part-written, part-before, start-kept}

-- ---- the unused places of a stack

pub unused-most : (n : ℕ) → unused_of n ≤ 64
unfolding unused_of
unused-most n = go (ltb n 64) refl
  where
    go : (t : Bool) → ltb n 64 ≡ t → cond t n 64 ≤ 64
    go true e = let h = ltb-true n 64 e in omega arith
    go false e = omega arith

unused-all : (n : ℕ) → n ≤ 64 → unused_of n ≡ n
unfolding unused_of
unused-all n h = go (ltb n 64) refl
  where
    go : (t : Bool) → ltb n 64 ≡ t → cond t n 64 ≡ n
    go true e = refl
    go false e = let k = ltb-false n 64 e in omega arith

-- ---- cells that are confined to numbers

kept-blocks : {xs ys : List (List Cell)} → Pointwise (Pointwise Kept) xs ys → map (map confine) xs ≡ xs
kept-blocks end = refl
kept-blocks (cons {a} {xs = xs} k ks) =
    ap (λ (l : List Cell). l ∷ map (map confine) xs) (kept-all k) ∙ ap (λ (ls : List (List Cell)). a ∷ ls) (kept-blocks ks)

kept-drop : (n : ℕ) {xs ys : List Cell} → Pointwise Kept xs ys → Pointwise Kept (drop n xs) (drop n ys)
kept-drop zero k = k
kept-drop (suc n) end = end
kept-drop (suc n) (cons k ks) = kept-drop n ks

kept-take : (n : ℕ) {xs ys : List Cell} → Pointwise Kept xs ys → Pointwise Kept (take n xs) (take n ys)
kept-take zero k = end
kept-take (suc n) end = end
kept-take (suc n) (cons k ks) = cons k (kept-take n ks)

blocks-kept : (ns : List ℕ) {xs ys : List Cell} → Pointwise Kept xs ys → Pointwise (Pointwise Kept) (blocks_of ns xs) (blocks_of ns ys)
unfolding blocks_of
blocks-kept [] k = end
blocks-kept (n ∷ ns) k = cons (kept-take n k) (blocks-kept ns (kept-drop 16 k))

-- ---- a row that is written

-- a state and a price by their parts
abbrev pub state : ℕ → Cell → List Cell → List (List Cell) → State
state n a s b = record { at = n; accu = a; stack = s; blocks = b }

states : (n : ℕ) {a a' : Cell} {s s' : List Cell} {b b' : List (List Cell)} → a ≡ a' → s ≡ s' → b ≡ b' → state n a s b ≡ state n a' s' b'
states n {a} {a'} {s} {s'} {b} {b'} e f g = ap (λ (x : Cell). state n x s b) e ∙ ap₂ (state n a') f g

abbrev price : ℕ → ℕ → Price
price c w = record { cycles = c; words = w }

-- the entries from the height on are p
abbrev entered : List ℕ → List ℕ → ℕ → List ℕ
entered r p f = put_mid (5 + f) (69 - (5 + f)) r p

-- and the fields q
abbrev pub made : List ℕ → List ℕ → List ℕ → ℕ → List ℕ
made r p q f = put_mid 69 128 (entered r p f) q

module _ (r p q : List ℕ) (f : ℕ) (rl : length r ≡ 197) (few : f ≤ 64) (pl : length p ≡ 69 - (5 + f)) (ql : length q ≡ 128) where
  same : length (entered r p f) ≡ 197
  same = part_same r p (5 + f) 69 (omega arith) (omega arith) pl ∙ rl

  pub made-start : (n : ℕ) → n ≤ 5 → take n (made r p q f) ≡ take n r
  made-start n h =
      start-kept (entered r p f) q 69 197 (omega arith) (omega (arith, same)) ql n (omega arith)
      ∙ start-kept r p (5 + f) 69 (omega arith) (omega arith) pl n (omega arith)

  pub made_at : (i : ℕ) → i < 5 → get_or (made r p q f) i 0 ≡ get_or r i 0
  made_at i h = sym (get_or-take 5 (made r p q f) i 0 h) ∙ ap (λ (l : List ℕ). get_or l i 0) (made-start 5 (omega arith)) ∙ get_or-take 5 r i 0 h

  pub made-state : (ns : List ℕ) (a : ℕ) → unused_of (get_or r 1 0) ≡ f → state_in ns a (made r p q f) ≡ state a (decoded_cell (get_or r 4 0)) (decoded_cells p) (blocks_of ns (decoded_cells q))
  unfolding state_in
  made-state ns a u =
      let unused : unused_of (get_or (made r p q f) 1 0) ≡ f = ap unused_of (made_at 1 (omega arith)) ∙ u in
      states a
      (ap decoded_cell (made_at 4 (omega arith)))
      (ap (λ (i : ℕ). decoded_cells (part (5 + i) 69 (made r p q f))) unused
      ∙ ap decoded_cells
      (part-before (entered r p f) q 69 197 (omega arith) (omega (arith, same)) ql (5 + f) 69 (omega arith) (omega arith)
      ∙ part-written r p (5 + f) 69 (omega arith) (omega arith) pl))
      (ap (λ (l : List ℕ). blocks_of ns (decoded_cells l)) (part-written (entered r p f) q 69 197 (omega arith) (omega (arith, same)) ql))

-- a number of the head is written that the state does not hold
state-set : (ns : List ℕ) (a : ℕ) (r : List ℕ) (i v : ℕ) → i < 5 → (1 ≡ i → ⊥) → (4 ≡ i → ⊥) → state_in ns a (set r i v) ≡ state_in ns a r
unfolding state_in
state-set ns a r i v h n m =
    let u = unused_of (get_or r 1 0) in
    states a
    (ap decoded_cell (get_or-set_other r i 4 v 0 m))
    (ap (λ (j : ℕ). decoded_cells (part (5 + unused_of j) 69 (set r i v))) (get_or-set_other r i 1 v 0 n)
    ∙ ap (λ (l : List ℕ). decoded_cells (take (69 - (5 + u)) l)) (drop-set-lt (5 + u) r i v (omega arith)))
    (ap (λ (l : List ℕ). blocks_of ns (decoded_cells (take 128 l))) (drop-set-lt 69 r i v (omega arith)))

-- ---- a way that is put down, and one that is taken

-- the head that is written
data Five : List ℕ → Type 0 where
  five : (m f c w x : ℕ) (l : List ℕ) → Five (m ∷ f ∷ c ∷ w ∷ x ∷ l)

five-of : (r : List ℕ) → 5 ≤ length r → Five r
five-of [] e = absurd (omega arith)
five-of (m ∷ []) e = absurd (omega arith)
five-of (m ∷ f ∷ []) e = absurd (omega arith)
five-of (m ∷ f ∷ c ∷ []) e = absurd (omega arith)
five-of (m ∷ f ∷ c ∷ w ∷ []) e = absurd (omega arith)
five-of (m ∷ f ∷ c ∷ w ∷ x ∷ l) e = five m f c w x l

module _ (ns : List ℕ) (w : Way) (r p q : List ℕ) (x : ℕ) (rl : length r ≡ 197) (formed : Formed w) (numeric : Numeric ns w)
    (pl : length p ≡ 69 - (5 + w.state.free)) (ql : length q ≡ 128)
    (accu : decoded_cell x ≡ confine w.state.accu) (stack : decoded_cells p ≡ map confine (drop w.state.free w.state.stack))
    (blocks : blocks_of ns (decoded_cells q) ≡ blocks_of ns (map confine w.blocks)) where
  abbrev head : List ℕ
  head = set (set (set (set (set r 0 1) 1 w.state.free) 2 w.cycles) 3 w.words) 4 x

  abbrev way-made : List ℕ
  way-made = made head p q w.state.free

  headed : {r : List ℕ} → Five r → (m f c w x : ℕ) → take 5 (set (set (set (set (set r 0 m) 1 f) 2 c) 3 w) 4 x) ≡ m ∷ f ∷ c ∷ w ∷ x ∷ []
  headed (five m' f' c' w' x' l) m f c w x = refl

  head-length : length head ≡ 197
  head-length = simp length-set rl

  way_at : (i : ℕ) → i < 5 → get_or way-made i 0 ≡ get_or (1 ∷ w.state.free ∷ w.cycles ∷ w.words ∷ x ∷ []) i 0
  way_at i h =
      made_at head p q w.state.free head-length formed.state.free pl ql i h
      ∙ sym (get_or-take 5 head i 0 h)
      ∙ ap (λ (l : List ℕ). get_or l i 0) (headed (five-of r (omega arith)) 1 w.state.free w.cycles w.words x)

  pub put-mark : get_or way-made 0 0 ≡ 1
  put-mark = way_at 0 (omega arith)

  head_at : (i : ℕ) → i < 5 → get_or head i 0 ≡ get_or (1 ∷ w.state.free ∷ w.cycles ∷ w.words ∷ x ∷ []) i 0
  head_at i h = sym (made_at head p q w.state.free head-length formed.state.free pl ql i h) ∙ way_at i h

  pub put_holds : arrival_in ns w.state.at way-made ≡ arrival_of ns w
  unfolding price_in arrival_of whole reblock
  put_holds =
      ap₂ arrival
      (made-state head p q w.state.free head-length formed.state.free pl ql ns w.state.at (ap unused_of (head_at 1 (omega arith)) ∙ unused-all w.state.free formed.state.free)
      ∙ states w.state.at
      (ap decoded_cell (head_at 4 (omega arith)) ∙ accu ∙ numeric.accu.kept.stays)
      (stack ∙ kept-all numeric.stack)
      (blocks ∙ blocks-map confine ns w.blocks ∙ kept-blocks numeric.blocks))
      (ap₂ price (way_at 2 (omega arith)) (way_at 3 (omega arith)))

module _ (at : ℕ) (r : List ℕ) (a : Cell) (f : ℕ) (st bl : List Cell) (rl : length r ≡ 197) (free : f ≡ unused_of (get_or r 1 0)) (full : length st ≡ 64) (stack : drop f st ≡ decoded_cells (part (5 + f) 69 r)) (blocks : bl ≡ decoded_cells (part 69 197 r)) where
  -- the way that is read of a row
  abbrev read : Way
  read = record { state = record { at = at; accu = a; free = f; stack = st }; blocks = bl; cycles = get_or r 2 0; words = get_or r 3 0 }

  pub take-holds : (ns : List ℕ) → a ≡ decoded_cell (get_or r 4 0) → arrival_of ns read ≡ arrival_in ns at r
  unfolding state_in price_in arrival_of whole reblock
  take-holds ns accu =
      ap (λ (s : State). arrival s (price_in r))
      (states at accu (stack ∙ ap (λ (k : ℕ). decoded_cells (part (5 + k) 69 r)) free) (ap (blocks_of ns) blocks))

  pub take-formed : Formed read
  take-formed = record {
    state = record { free = rw free (unused-most (get_or r 1 0)); places = full };
    fields = ap length blocks ∙ cells-length (part 69 197 r) ∙ part_length 69 197 r (omega arith);
  }

  pub take-numeric : (ns : List ℕ) → a ≡ decoded_cell (get_or r 4 0) → Numeric ns read
  unfolding whole reblock
  take-numeric ns accu = record {
    at = refl;
    accu = rw accu (kept_self (code-confined (get_or r 4 0)));
    stack = rw stack (codes-kept (part (5 + f) 69 r));
    blocks = rw blocks (blocks-kept ns (codes-kept (part 69 197 r)));
  }

-- ---- by the mark

module _ (ns : List ℕ) (a : ℕ) where
  pub slot-empty : (r : List ℕ) → get_or r 0 0 ≡ 0 → slot_in ns a r ≡ empty
  unfolding slot_in marked
  slot-empty r e = ap (λ (m : ℕ). marked m (arrival_in ns a r)) e

  pub slot_held : (r : List ℕ) → get_or r 0 0 ≡ 1 → slot_in ns a r ≡ held (state_in ns a r) (price_in r)
  unfolding slot_in marked
  slot_held r e = ap (λ (m : ℕ). marked m (arrival_in ns a r)) e

  other : (m : ℕ) (x : Arrival) → (m ≡ 0 → ⊥) → (m ≡ 1 → ⊥) → marked m x ≡ unlike
  unfolding marked
  other zero x n k = absurd (n refl)
  other (suc zero) x n k = absurd (k refl)
  other (suc (suc m)) x n k = refl

  pub slot-unlike : (r : List ℕ) → (get_or r 0 0 ≡ 0 → ⊥) → (get_or r 0 0 ≡ 1 → ⊥) → slot_in ns a r ≡ unlike
  unfolding slot_in
  slot-unlike r n k = other (get_or r 0 0) (arrival_in ns a r) n k

  -- states that cannot be merged leave this mark
  pub row-unlike : (r : List ℕ) (p : Price) (t : Try State) → length r ≡ 197 → stuck ≡ t → slot_in ns a (set r 0 2) ≡ settle p t
  unfolding slot_in marked settle
  row-unlike r p t e q =
      ap (λ (m : ℕ). marked m (arrival_in ns a (set r 0 2))) (get_or-set_same r 0 2 0 (omega arith)) ∙ ap (settle p) q

  -- states that were merged, and the larger sums
  pub row-met : (r r' k : List ℕ) (m n : ℕ) (t : Try State) → length r' ≡ 197 → take 4 r' ≡ take 4 r → get_or r 0 0 ≡ 1
      → m ≡ max (get_or r' 2 0) (get_or k 2 0) → n ≡ max (get_or r' 3 0) (get_or k 3 0) → done (state_in ns a r') ≡ t
      → slot_in ns a (set (set r' 2 m) 3 n) ≡ settle (larger (price_in r) (price_in k)) t
  unfolding price_in larger settle
  row-met r r' k m n t l e o p q v =
      let at : (i : ℕ) → i < 4 → get_or r' i 0 ≡ get_or r i 0 = λ i h. sym (get_or-take 4 r' i 0 h) ∙ ap (λ (x : List ℕ). get_or x i 0) e ∙ get_or-take 4 r i 0 h in
      let r'' = set (set r' 2 m) 3 n in
      let mark : get_or r'' 0 0 ≡ 1 = get_or-set_other (set r' 2 m) 3 0 n 0 (λ z. omega arith) ∙ get_or-set_other r' 2 0 m 0 (λ z. omega arith) ∙ at 0 (omega arith) ∙ o in
      let cycles : get_or r'' 2 0 ≡ max (get_or r 2 0) (get_or k 2 0) = get_or-set_other (set r' 2 m) 3 2 n 0 (λ z. omega arith) ∙ get_or-set_same r' 2 m 0 (omega arith) ∙ p ∙ ap (λ (x : ℕ). max x (get_or k 2 0)) (at 2 (omega arith)) in
      let words : get_or r'' 3 0 ≡ max (get_or r 3 0) (get_or k 3 0) = get_or-set_same (set r' 2 m) 3 n 0 (rw length-set (omega arith)) ∙ q ∙ ap (λ (x : ℕ). max x (get_or k 3 0)) (at 3 (omega arith)) in
      let same-state : state_in ns a r'' ≡ state_in ns a r' = state-set ns a (set r' 2 m) 3 n (omega arith) (λ z. omega arith) (λ z. omega arith) ∙ state-set ns a r' 2 m (omega arith) (λ z. omega arith) (λ z. omega arith) in
      slot_held r'' mark
      ∙ ap₂ held same-state (ap₂ price cycles words)
      ∙ ap (settle (larger (price_in r) (price_in k))) v

-- ---- a way comes to what is held

-- the first
pub first-joined : (s : State) (p : Price) (x : Arrival) → arrival s p ≡ x → held s p ≡ join empty x
unfolding join
first-joined s p x e = ap₂ held (ap (λ (y : Arrival). y.state) e) (ap (λ (y : Arrival). y.spent) e)

-- one more
pub next-joined : (s t : State) (p q : Price) (x : Arrival) → arrival t q ≡ x → settle (larger p q) (merge_states s t) ≡ join (held s p) x
unfolding join
next-joined s t p q x e = ap₂ (λ (r : Price) (u : State). settle (larger p r) (merge_states s u)) (ap (λ (y : Arrival). y.spent) e) (ap (λ (y : Arrival). y.state) e)

-- one where states cannot be merged
pub other-joined : (s : Slot) (x : Arrival) → s ≡ unlike → s ≡ join s x
unfolding join
other-joined s x e = e ∙ ap (λ (t : Slot). join t x) (sym e)
