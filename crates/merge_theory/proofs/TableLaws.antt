-- There is one table of what comes: to an address come the start and ways from lower addresses, and what comes there together is settled by
-- what comes. Assumes nothing.
use mathlib.Core.Path.{◌≡◌, refl, sym, ap, ap₂, ◌∙◌}
use mathlib.Core.List.{List, [], ◌∷◌}
use Prim.Native.Nat.{ℕ, zero, suc, ◌≤◌, ◌<◌}
use native.Mathlib.Omega.{arith}
use lib.IntN.{ℤ}
use Rattle.numbers.proofs.IntegerLaws.{equal_by}
use Rattle.refusals.specs.declared.Refusal.{Refusal}
use Rattle.cells.specs.Try.{Try, stuck, done, ◌>>=◌}
use Rattle.cells.specs.declared.Cell.{Cell}
use Rattle.cells.specs.declared.Value.{Value}
use Rattle.cells.specs.Cells.{cell, range, unknown}
use Rattle.merge_cells.specs.Merge.{merge_cells}
use Rattle.cells.specs.Order.{Refines, Pointwise, end, cons}
use Rattle.cells.proofs.RangeLaws.{Linear}
use Rattle.cells.proofs.CellLaws.{Below, ranges, handles, below}
use Rattle.machine.specs.Machine.{State, Price, Code, jump, step}
use Rattle.machine.specs.Forward.{Forward}
use Rattle.bound_theory.proofs.ForwardLaws.{forward-once}
use Rattle.merge_theory.specs.Merge.{merge_lists, merge_states, Arrival, Slot, empty, unlike, held, settle, join, slot, Table}
use Rattle.merge_theory.specs.Ways.{Among, first, later, Under, Together, Arrives, begins, follows, Fault, no_meeting, is_stuck, FirstFault}
use Rattle.merge_theory.specs.Promises.{Gathered}
use Rattle.merge_theory.proofs.SlotLaws.{Summary, of_none, of-unlike, of-held, nobody, summary, slot-unlike}

-- ---- what refines each other is the same

ranges-both : {l l' : ℤ} {m m' : ℕ} → Linear l m l' m' → Linear l' m' l m → range l m ≡ range l' m'
ranges-both {l} {l'} {m} {m'} h k =
    let e : l ≡ l' = equal_by l l' (omega (arith, h, k)) in
    let f : m ≡ m' = omega (arith, h, k) in
    ap₂ range e f

values-both : {v w : Value} → Below v w → Below w v → cell v ≡ cell w
values-both (ranges h) (ranges k) = ranges-both h k
values-both handles k = refl

pub refines-both : (a b : Cell) → Refines a b → Refines b a → a ≡ b
refines-both a b h k = values-both (below h) (below k)

pointwise-both : {A : Type 0} {R : A → A → Type 0} → ((a b : A) → R a b → R b a → a ≡ b) → {xs ys : List A} → Pointwise R xs ys → Pointwise R ys xs → xs ≡ ys
pointwise-both f end end = refl
pointwise-both f (cons {a} {b} r rs) (cons q qs) = ap₂ ◌∷◌ (f a b r q) (pointwise-both f rs qs)

abbrev state : ℕ → Cell → List Cell → List (List Cell) → State
state n a cs bs = record { at = n; accu = a; stack = cs; blocks = bs }

same-states : (s t : State) → s.at ≡ t.at → Under s t → Under t s → s ≡ t
same-states s t e h k =
    let a : s.accu ≡ t.accu = refines-both _ _ h.accu k.accu in
    let b : s.stack ≡ t.stack = pointwise-both refines-both h.stack k.stack in
    let d : s.blocks ≡ t.blocks = pointwise-both (λ xs ys r q. pointwise-both refines-both r q) h.blocks k.blocks in
    ap₂ (λ n x. state n x s.stack s.blocks) e a ∙ ap₂ (state t.at t.accu) b d

abbrev price : ℕ → ℕ → Price
price m n = record { cycles = m; words = n }

same-prices : (p q : Price) → p.cycles ≡ q.cycles → p.words ≡ q.words → p ≡ q
same-prices p q e f = ap₂ price e f

-- ---- the address of a merged state

merged-at : (s t m : State) → merge_states s t ≡ done m → m.at ≡ s.at
unfolding merge_states ◌>>=◌
merged-at s t m = one (merge_cells s.accu t.accu)
  where
    no : {A : Type 0} → stuck ≡ done m → A
    no e = let z : ◌≡◌ {A = ℕ} 0 1 = cc in absurd (omega arith)

    three : (a : Cell) (cs : List Cell) (bs : Try (List (List Cell))) → (bs >>= λ ds. done (record { at = s.at; accu = a; stack = cs; blocks = ds })) ≡ done m → m.at ≡ s.at
    three a cs stuck e = no e
    three a cs (done bs) e = cc

    two : (a : Cell) (cs : Try (List Cell)) → (cs >>= λ ds. merge_lists (merge_lists merge_cells) s.blocks t.blocks >>= λ bs. done (record { at = s.at; accu = a; stack = ds; blocks = bs })) ≡ done m → m.at ≡ s.at
    two a stuck e = no e
    two a (done cs) e = three a cs (merge_lists (merge_lists merge_cells) s.blocks t.blocks) e

    one : (a : Try Cell) → (a >>= λ b. merge_lists merge_cells s.stack t.stack >>= λ cs. merge_lists (merge_lists merge_cells) s.blocks t.blocks >>= λ bs.
        done (record { at = s.at; accu = b; stack = cs; blocks = bs })) ≡ done m → m.at ≡ s.at
    one stuck e = no e
    one (done a) e = two a (merge_lists merge_cells s.stack t.stack) e

slot_at : (a : ℕ) (xs : List Arrival) → ((x : Arrival) → Among x xs → x.state.at ≡ a) → (m : State) (p : Price) → slot xs ≡ held m p → m.at ≡ a
unfolding slot join settle
slot_at a [] h m p e = let z : ◌≡◌ {A = ℕ} 0 1 = cc in absurd (omega arith)
slot_at a (x ∷ xs) h m p e = go (slot xs) refl e (slot_at a xs (λ y k. h y (later k)))
  where
    settled : (n : State) (r : Price) (t : Try State) → merge_states n x.state ≡ t → settle r t ≡ held m p → n.at ≡ a → m.at ≡ a
    settled n r stuck f g i = let z : ◌≡◌ {A = ℕ} 0 1 = cc in absurd (omega arith)
    settled n r (done t) f g i = let k : t ≡ m = cc in ap (λ (y : State). y.at) (sym k) ∙ merged-at n x.state t f ∙ i

    go : (i : Slot) → slot xs ≡ i → join i x ≡ held m p → ((n : State) (r : Price) → slot xs ≡ held n r → n.at ≡ a) → m.at ≡ a
    go empty f g ih = let k : x.state ≡ m = cc in ap (λ (y : State). y.at) (sym k) ∙ h x first
    go unlike f g ih = let z : ◌≡◌ {A = ℕ} 0 1 = cc in absurd (omega arith)
    go (held n r) f g ih = settled n _ (merge_states n x.state) refl g (ih n r f)

-- ---- one table

module _ (c : Code) (forward : Forward c) (s : State) where
  -- what comes to an address by one table comes by another that has the same below it
  carried-over : (came came' : Table) → Gathered c s came → Gathered c s came' → (a : ℕ) → ((b : ℕ) → b < a → slot (came b) ≡ slot (came' b)) →
      (x : Arrival) → Among x (came a) → Among x (came' a)
  unfolding jump
  carried-over came came' g g' a below x h = let (e, k) = (g.comes a x).0 h in (g'.comes a x).1 (e, go e k)
    where
      go : x.state.at ≡ a → Arrives (step c unknown) came s x → Arrives (step c unknown) came' s x
      go e (begins f) = begins f
      go e (follows b {s = t} {t = u} {m = m} f w k) =
          let l = (forward-once c forward).rises unknown (jump b t) m u w in
          let i = ap (λ (y : Arrival). y.state.at) k in
          follows b (sym (below b (omega arith)) ∙ f) w k

  module _ {xs ys : List Arrival} (there : (x : Arrival) → Among x xs → Among x ys) (back : (x : Arrival) → Among x ys → Among x xs) where
    no_more : {m n : State} {p q : Price} → Together xs m p → Together ys n q → (p.cycles ≤ q.cycles) × (p.words ≤ q.words)
    no_more h k =
        let (x, i, e) = h.cycles in
        let (y, j, f) = h.words in
        omega (arith, k.sums x (there x i), k.sums y (there y j))

  alike : {xs ys : List Arrival} → ((x : Arrival) → Among x xs → Among x ys) → ((x : Arrival) → Among x ys → Among x xs) →
      {i j : Slot} → Summary xs i → Summary ys j → (a : ℕ) → ((m : State) (p : Price) → i ≡ held m p → m.at ≡ a) → ((m : State) (p : Price) → j ≡ held m p → m.at ≡ a) → i ≡ j
  alike there back (of_none e) (of_none f) a u v = refl
  alike there back (of_none e) (of-unlike {x} h k w) a u v = absurd (nobody e (back x h))
  alike there back (of_none e) (of-held h) a u v = let (x, k, r) = h.cycles in absurd (nobody e (back x k))
  alike there back (of-unlike {x} h k w) (of_none f) a u v = absurd (nobody f (there x h))
  alike there back (of-unlike h k w) (of-unlike h' k' w') a u v = refl
  alike there back (of-unlike {x} {y} h k w) (of-held i) a u v = sym (slot-unlike (of-held i) (there x h) (there y k) w)
  alike there back (of-held i) (of_none f) a u v = let (x, k, r) = i.cycles in absurd (nobody f (there x k))
  alike there back (of-held i) (of-unlike {x} {y} h k w) a u v = slot-unlike (of-held i) (back x h) (back y k) w
  alike there back (of-held {m} {p} h) (of-held {m = n} {p = q} k) a u v =
      let l = no_more there back h k in
      let l' = no_more back there k h in
      ap₂ held
      (same-states m n (u m p refl ∙ sym (v n q refl)) (h.least n (λ x i. k.covers x (there x i))) (k.least m (λ x i. h.covers x (back x i))))
      (same-prices p q (omega arith) (omega arith))

  module _ (came came' : Table) (g : Gathered c s came) (g' : Gathered c s came') where
    same-below : (k a : ℕ) → a < k → slot (came a) ≡ slot (came' a)
    same-below zero a h = absurd (omega arith)
    same-below (suc k) a h =
        let below : (b : ℕ) → b < a → slot (came b) ≡ slot (came' b) = λ b l. same-below k b (omega arith) in
        alike (carried-over came came' g g' a below) (carried-over came' came g' g a (λ b l. sym (below b l))) (summary (came a)) (summary (came' a)) a
        (slot_at a (came a) (λ x i. ((g.comes a x).0 i).0)) (slot_at a (came' a) (λ x i. ((g'.comes a x).0 i).0))

    pub one_table : (a : ℕ) → slot (came a) ≡ slot (came' a)
    one_table a = same-below (suc a) a (omega arith)

  -- so of the faults
  fault-there : (came came' : Table) → Gathered c s came → Gathered c s came' → {a : ℕ} {r : Refusal} → Fault (step c unknown) came a r → Fault (step c unknown) came' a r
  fault-there came came' g g' {a} (no_meeting {x} {y} h k u) =
      let there = carried-over came came' g g' a (λ b l. one_table came came' g g' b) in
      no_meeting (there x h) (there y k) u
  fault-there came came' g g' {a} (is_stuck e f) = is_stuck (sym (one_table came came' g g' a) ∙ e) f

  pub first-there : (came came' : Table) → Gathered c s came → Gathered c s came' → (r : Refusal) → FirstFault (step c unknown) came r → FirstFault (step c unknown) came' r
  first-there came came' g g' r f = record {
    address = f.address;
    fault = fault-there came came' g g' f.fault;
    lower = λ b y h k. f.lower b y h (fault-there came' came g' g k);
  }
