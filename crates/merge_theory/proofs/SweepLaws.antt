-- The sweep is monotone: where less has come to each address, and the ways to it have cost less by d, no figure is greater, and none is
-- refused that the other is not. Assumes nothing.
use mathlib.Core.Path.{◌≡◌, refl, ap}
use mathlib.Core.Bool.{Bool, true, false, cond, true≢false, false≢true}
use mathlib.Core.List.{List, ◌∷◌}
use Prim.Native.Nat.{ℕ, zero, suc, ◌+◌, ◌-◌, ◌≤◌}
use native.Mathlib.Omega.{arith}
use lib.Dec.{eqb}
use Rattle.refusals.specs.declared.Refusal.{Refusal}
use Rattle.cells.specs.Try.{Try, stuck, done}
use Rattle.cells.specs.Order.{Refines}
use Rattle.cells.specs.Covering.{Covered, by_stuck, both}
use Rattle.machine.specs.Machine.{State, Price, Next, stops, goes, opens, height, jump, sum}
use Rattle.machine.specs.Order.{Cellwise}
use Rattle.machine.specs.Covering.{NextCovered, stops_too, goes_too, opens_too, goes_not_taken, goes_taken}
use Rattle.machine.proofs.StateLaws.{height-law}
use Rattle.bound_theory.specs.Tree.{Report, Verdict, accepted, refused}
use Rattle.merge_theory.specs.Merge.{Arrival, Slot, empty, unlike, held, larger, settle, join, slot, Table, arrive, send, reach, finish, carry, visit, sweep}
use Rattle.merge_theory.specs.Ways.{Under}
use Rattle.merge_theory.proofs.MergeLaws.{merging-monotone, cellwise-under, states-merging}

-- d and p together are at most q
pub record Within (d p q : Price) : Type 0 where
  pub cycles : d.cycles + p.cycles ≤ q.cycles
  pub words : d.words + p.words ≤ q.words

within-larger : {d p q p' q' : Price} → Within d p q → Within d p' q' → Within d (larger p p') (larger q q')
unfolding larger
within-larger h k = omega (arith, h, k)

within_first : {d p q : Price} (q' : Price) → Within d p q → Within d p (larger q q')
unfolding larger
within_first q' h = omega (arith, h)

within-second : {d p q' : Price} (q : Price) → Within d p q' → Within d p (larger q q')
unfolding larger
within-second q h = omega (arith, h)

within-sum : {d p q : Price} (z : Price) → Within d p q → Within d (sum p z) (sum q z)
within-sum z h = omega (arith, h)

module _ (d : Price) where
  pub data Below : Slot → Slot → Type 0 where
    below-empty : {y : Slot} → Below empty y
    below-unlike : {x : Slot} → Below x unlike
    below-held : {s t : State} {p q : Price} → Under s t → Within d p q → Below (held s p) (held t q)

  settle-law : {m n : Try State} {p q : Price} → Covered Under m n → Within d p q → Below (settle p m) (settle q n)
  unfolding settle
  settle-law by_stuck w = below-unlike
  settle-law (both u) w = below-held u w

  join-law : {x y : Slot} (a b : Arrival) → Below x y → Under a.state b.state → Within d a.spent b.spent → Below (join x a) (join y b)
  unfolding join settle
  join-law a b (below-empty {y = empty}) u w = below-held u w
  join-law a b (below-empty {y = unlike}) u w = below-unlike
  join-law a b (below-empty {y = held t q}) u w = settle-law {m = done a.state} (states-merging.right a.state t b.state u) (within-second q w)
  join-law a b below-unlike u w = below-unlike
  join-law a b (below-held {s} {t} v h) u w = settle-law (merging-monotone states-merging s a.state t b.state v u) (within-larger h w)

  join_up : {x y : Slot} (b : Arrival) → Below x y → Below x (join y b)
  unfolding join settle
  join_up b below-empty = below-empty
  join_up b below-unlike = below-unlike
  join_up b (below-held {s} {t} v h) = settle-law {m = done s} (states-merging.left s t b.state v) (within_first b.spent h)

  pub record Tables (x y : Table) : Type 0 where
    pub at : (a : ℕ) → Below (slot (x a)) (slot (y a))

  pick : (e f : Bool) (xs ys xs' ys' : List Arrival) → e ≡ f → Below (slot xs) (slot ys) → Below (slot xs') (slot ys') → Below (slot (cond e xs xs')) (slot (cond f ys ys'))
  pick true true xs ys xs' ys' e h k = h
  pick true false xs ys xs' ys' e h k = absurd (true≢false e)
  pick false true xs ys xs' ys' e h k = absurd (false≢true e)
  pick false false xs ys xs' ys' e h k = k

  pick_up : (f : Bool) {x : Slot} (ys ys' : List Arrival) → Below x (slot ys) → Below x (slot ys') → Below x (slot (cond f ys ys'))
  pick_up true ys ys' h k = h
  pick_up false ys ys' h k = k

  pub arrive-law : (a b : Arrival) {x y : Table} → Cellwise Refines a.state b.state → Within d a.spent b.spent → Tables x y → Tables (arrive a x) (arrive b y)
  unfolding arrive slot
  arrive-law a b {x} {y} e w h = record { at = λ i. pick (eqb i a.state.at) (eqb i b.state.at) (a ∷ x i) (b ∷ y i) (x i) (y i) (ap (eqb i) e.at) (join-law a b (h.at i) (cellwise-under e) w) (h.at i) }

  pub arrive-up : (b : Arrival) {x y : Table} → Tables x y → Tables x (arrive b y)
  unfolding arrive slot
  arrive-up b {x} {y} h = record { at = λ i. pick_up (eqb i b.state.at) (b ∷ y i) (y i) (join_up b (h.at i)) (h.at i) }

  send-up : (q : Price) (n : Next) {x y : Table} → Tables x y → Tables x (send q n y)
  unfolding send
  send-up q (stops z) h = h
  send-up q (goes z t) h = arrive-up _ h
  send-up q (opens z t z' u) h = arrive-up _ (arrive-up _ h)

  -- the figures so far; k is how many addresses the larger has reached more at least
  module _ (k : ℕ) where
    pub record Less (r q : Report) : Type 0 where
      pub cycles : r.cycles ≤ q.cycles - d.cycles
      pub words : r.words ≤ q.words - d.words
      pub depth : r.depth ≤ q.depth
      pub steps : k + r.steps ≤ q.steps

    pub data Verdicts : Verdict → Verdict → Type 0 where
      refused-there : {x : Verdict} {z : Refusal} → Verdicts x (refused z)
      accepted-both : {r q : Report} → Less r q → Verdicts (accepted r) (accepted q)

    reach-up : (t : State) (p : Price) (n : Next) {r q : Report} → Less r q → Less r (finish p n (reach t q))
    unfolding reach finish
    reach-up t p (stops z) l = omega (arith, l)
    reach-up t p (goes z u) l = omega (arith, l)
    reach-up t p (opens z u z' v) l = omega (arith, l)

    reach-law : (s t : State) {r q : Report} → height s ≡ height t → Less r q → Less (reach s r) (reach t q)
    unfolding reach
    reach-law s t e l = omega (arith, l)

    stop-law : (s t : State) {p q : Price} {r r' : Report} (z : Price) → height s ≡ height t → Within d p q → Less r r' →
        Less (finish p (stops z) (reach s r)) (finish q (stops z) (reach t r'))
    unfolding reach finish
    stop-law s t z e w l = omega (arith, l, w)

    module _ (rest rest' : Table → Report → Verdict) (ih : (x y : Table) (r q : Report) → Tables x y → Less r q → Verdicts (rest x r) (rest' y q))
        (a : ℕ) (x y : Table) (h : Tables x y) (r r' : Report) (l : Less r r') where
      carry-law : (s t : State) (p q : Price) {m n : Try Next} → height s ≡ height t → Within d p q → Covered (NextCovered (Cellwise Refines) (Unit {0})) m n →
          Verdicts (carry rest a x r s p m) (carry rest' a y r' t q n)
      unfolding carry send finish
      carry-law s t p q g w by_stuck = refused-there
      carry-law s t p q g w (both (stops_too {p = z})) = ih x y _ _ h (stop-law s t z g w l)
      carry-law s t p q g w (both (goes_too {p = z} e)) = ih _ _ _ _ (arrive-law _ _ e (within-sum z w) h) (reach-law s t g l)
      carry-law s t p q g w (both (opens_too {p = z} {q = z'} u e f)) = ih _ _ _ _ (arrive-law _ _ e (within-sum z w) (arrive-law _ _ f (within-sum z' w) h)) (reach-law s t g l)
      carry-law s t p q g w (both (goes_not_taken {p = z} e)) = ih _ _ _ _ (arrive-law _ _ e (within-sum z w) (arrive-up _ h)) (reach-law s t g l)
      carry-law s t p q g w (both (goes_taken {q = z'} f)) = ih _ _ _ _ (arrive-up _ (arrive-law _ _ f (within-sum z' w) h)) (reach-law s t g l)

      -- an address that only the larger sweep reaches
      pass-law : (t : State) (q : Price) (m : Try Next) → Verdicts (rest x r) (carry rest' a y r' t q m)
      unfolding carry
      pass-law t q stuck = refused-there
      pass-law t q (done n) = ih x _ r _ (send-up q n h) (reach-up t q n l)

      visit-law : (act act' : State → Try Next) → ((s t : State) → Cellwise Refines s t → Covered (NextCovered (Cellwise Refines) (Unit {0})) (act s) (act' t)) →
          {i j : Slot} → Below i j → Verdicts (visit act rest a x r i) (visit act' rest' a y r' j)
      unfolding visit jump height
      visit-law act act' keeps (below-empty {y = empty}) = ih x y r r' h l
      visit-law act act' keeps (below-empty {y = unlike}) = refused-there
      visit-law act act' keeps (below-empty {y = held t q}) = pass-law t q (act' (jump a t))
      visit-law act act' keeps below-unlike = refused-there
      visit-law act act' keeps (below-held {s} {t} {p} {q} u w) =
          let e : Cellwise Refines (jump a s) (jump a t) = record { at = refl; accu = u.accu; stack = u.stack; blocks = u.blocks } in
          carry-law s t p q (height-law e) w (keeps (jump a s) (jump a t) e)

    pub sweep-law : (act act' : State → Try Next) → ((s t : State) → Cellwise Refines s t → Covered (NextCovered (Cellwise Refines) (Unit {0})) (act s) (act' t)) →
        (n a : ℕ) (x y : Table) (r q : Report) → Tables x y → Less r q → Verdicts (sweep act n a x r) (sweep act' n a y q)
    unfolding sweep
    sweep-law act act' keeps zero a x y r q h l = accepted-both l
    sweep-law act act' keeps (suc n) a x y r q h l = visit-law (sweep act n (suc a)) (sweep act' n (suc a)) (sweep-law act act' keeps n (suc a)) a x y h r q l act act' keeps (h.at a)
