-- The figures and the refusal by a table that does not change: each address that is accepted makes its step within the figures, the
-- figures are those of some address, and a refusal is at the lowest address that has one. Assumes nothing.
use mathlib.Core.Path.{◌≡◌, refl, sym, ◌∙◌, ap}
use mathlib.Core.Bool.{Bool, true, false}
use mathlib.Core.Logic.{◌≢◌, ◌⊎◌, inl, inr}
use mathlib.Core.List.{List, [], ◌∷◌}
use Prim.Native.Nat.{ℕ, zero, suc, ◌+◌, max, ◌≤◌, ◌<◌}
use native.Mathlib.Omega.{arith}
use lib.Dec.{eqb, ltb}
use borrow.Author.Tests.{eqb-true, eqb-false, ltb-true, ltb-false}
use Rattle.refusals.specs.declared.Refusal.{Refusal}
use Rattle.refusals.specs.declared.Refusal.TheVariants.{Stuck, NoMeeting}
use Rattle.cells.specs.Try.{Try, stuck, done}
use Rattle.machine.specs.Machine.{State, Price, Next, stops, goes, opens, height, jump, sum}
use Rattle.bound_theory.specs.Tree.{Report, Verdict, accepted, refused}
use Rattle.bound_theory.specs.Traces.{Move, cost, word_sum}
use Rattle.bound_theory.specs.Promises.{NoGreater}
use Rattle.bound_theory.proofs.TreeLaws.{contradiction}
use Rattle.merge_theory.specs.Merge.{Arrival, Slot, empty, unlike, held, slot, Table, reach, finish, none}
use Rattle.merge_theory.specs.Ways.{Among, NoMore, Together, one, count}
use Rattle.merge_theory.proofs.FillLaws.{weigh, inspect, assess}

abbrev pub free : Price
free = record { cycles = 0; words = 0 }

-- cycles or words: what one has of a price, of a way and of a report
pub record Measure : Type 0 where
  pub of : Price → ℕ
  pub total : List Move → ℕ
  pub figure : Report → ℕ
  pub nil : total [] ≡ 0
  pub cons : (m : Move) (ms : List Move) → total (m ∷ ms) ≡ of m.price + total ms
  pub nothing : of free ≡ 0
  pub sums : (p q : Price) → of (sum p q) ≡ of p + of q
  pub none_yet : figure none ≡ 0
  pub reached : (s : State) (r : Report) → figure (reach s r) ≡ figure r
  pub stopped : (p q : Price) (r : Report) → figure (finish p (stops q) r) ≡ max (figure r) (of p + of q)
  pub grown : {r q : Report} → NoGreater r q → figure r ≤ figure q
  pub more : {p q : Price} → NoMore p q → of p ≤ of q
  pub attained : {xs : List Arrival} {m : State} {p : Price} → Together xs m p → (x : Arrival) × Among x xs × (of x.spent ≡ of p)

unfoldable pub in-cycles : Measure
unfolding cost reach finish
in-cycles = record {
  of = λ p. p.cycles;
  total = cost;
  figure = λ r. r.cycles;
  nil = refl;
  cons = λ m ms. refl;
  nothing = refl;
  sums = λ p q. refl;
  none_yet = refl;
  reached = λ s r. refl;
  stopped = λ p q r. refl;
  grown = λ h. h.cycles;
  more = λ h. h.cycles;
  attained = λ h. h.cycles;
}

unfoldable pub in_words : Measure
unfolding word_sum reach finish
in_words = record {
  of = λ p. p.words;
  total = word_sum;
  figure = λ r. r.words;
  nil = refl;
  cons = λ m ms. refl;
  nothing = refl;
  sums = λ p q. refl;
  none_yet = refl;
  reached = λ s r. refl;
  stopped = λ p q r. refl;
  grown = λ h. h.words;
  more = λ h. h.words;
  attained = λ h. h.words;
}

-- the larger of two is one of them
either : (a b : ℕ) → (max a b ≡ a) ⊎ (max a b ≡ b)
either a b = go (ltb a b) refl
  where
    go : (t : Bool) → ltb a b ≡ t → (max a b ≡ a) ⊎ (max a b ≡ b)
    go true e = let l = ltb-true a b e in inr (omega arith)
    go false e = let l = ltb-false a b e in inl (omega arith)

finish-up : (s : State) (p : Price) (n : Next) (r : Report) → NoGreater r (finish p n (reach s r))
unfolding reach finish
finish-up s p (stops z) r = omega arith
finish-up s p (goes z t) r = omega arith
finish-up s p (opens z t z' u) r = omega arith

-- what an address adds is there, whatever was before
finish-alone : (s : State) (p : Price) (n : Next) (r : Report) → NoGreater (finish p n (reach s none)) (finish p n (reach s r))
unfolding reach finish
finish-alone s p (stops z) r = omega arith
finish-alone s p (goes z t) r = omega arith
finish-alone s p (opens z t z' u) r = omega arith

pub finish-depth : (p : Price) (n : Next) (r : Report) → (finish p n r).depth ≡ r.depth
unfolding finish
finish-depth p (stops q) r = refl
finish-depth p (goes q t) r = refl
finish-depth p (opens q t q' u) r = refl

pub finish-steps : (p : Price) (n : Next) (r : Report) → (finish p n r).steps ≡ r.steps
unfolding finish
finish-steps p (stops q) r = refl
finish-steps p (goes q t) r = refl
finish-steps p (opens q t q' u) r = refl

pub finish-path : (s : State) (p : Price) (n : Next) (r : Report) → (finish p n (reach s r)).path ≡ []
unfolding finish reach
finish-path s p (stops q) r = refl
finish-path s p (goes q t) r = refl
finish-path s p (opens q t q' u) r = refl

self : (r : Report) → NoGreater r r
self r = omega arith

trans : {r q u : Report} → NoGreater r q → NoGreater q u → NoGreater r u
trans h k = omega (arith, h, k)

module _ (act : State → Try Next) (came : Table) where
  -- how an inspection goes on
  data Inspected (rest : Report → Verdict) (a : ℕ) (r q : Report) : Slot → Type 0 where
    passed : rest r ≡ accepted q → Inspected rest a r q empty
    made : {s : State} {p : Price} (n : Next) → act (jump a s) ≡ done n → rest (finish p n (reach s r)) ≡ accepted q → Inspected rest a r q (held s p)

  inspected : (rest : Report → Verdict) (a : ℕ) (r q : Report) (i : Slot) → inspect act rest a r i ≡ accepted q → Inspected rest a r q i
  unfolding inspect weigh
  inspected rest a r q empty e = passed e
  inspected rest a r q unlike e = contradiction _ _ e
  inspected rest a r q (held s p) e = go (act (jump a s)) refl e
    where
      go : (m : Try Next) → act (jump a s) ≡ m → weigh rest a r s p m ≡ accepted q → Inspected rest a r q (held s p)
      go stuck h e = contradiction _ _ e
      go (done n) h e = made n h e

  grows : (n a : ℕ) (r q : Report) → assess act came n a r ≡ accepted q → NoGreater r q
  unfolding assess
  grows zero a r q e = let h : r ≡ q = cc in rw h (omega arith)
  grows (suc n) a r q e = go (inspected (assess act came n (suc a)) a r q (slot (came a)) e) (grows n (suc a))
    where
      go : {i : Slot} → Inspected (assess act came n (suc a)) a r q i → ((r q : Report) → assess act came n (suc a) r ≡ accepted q → NoGreater r q) → NoGreater r q
      go (passed f) ih = ih r q f
      go (made {s} {p} k h f) ih = trans (finish-up s p k r) (ih _ q f)

  -- every address makes its step, if it is reached, and what it adds is within the figures
  pub data Fine (q : Report) (b : ℕ) : Slot → Type 0 where
    unreached : Fine q b empty
    carried : {s : State} {p : Price} (n : Next) → act (jump b s) ≡ done n → NoGreater (finish p n (reach s none)) q → Fine q b (held s p)

  pub fine : (n a : ℕ) (r q : Report) → assess act came n a r ≡ accepted q → (b : ℕ) → a ≤ b → b < a + n → Fine q b (slot (came b))
  unfolding assess
  fine zero a r q e b lo hi = absurd (omega arith)
  fine (suc n) a r q e b lo hi = go (eqb b a) refl (inspected (assess act came n (suc a)) a r q (slot (came a)) e) (fine n (suc a))
    where
      here : {i : Slot} → Inspected (assess act came n (suc a)) a r q i → Fine q a i
      here (passed f) = unreached
      here (made {s} {p} k h f) = carried k h (trans (finish-alone s p k r) (grows n (suc a) _ q f))

      there : {i : Slot} → Inspected (assess act came n (suc a)) a r q i → suc a ≤ b → ((r q : Report) → assess act came n (suc a) r ≡ accepted q → (b : ℕ) → suc a ≤ b → b < suc a + n → Fine q b (slot (came b))) → Fine q b (slot (came b))
      there (passed f) l ih = ih r q f b l (omega arith)
      there (made k h f) l ih = ih _ q f b l (omega arith)

      go : (t : Bool) → eqb b a ≡ t → Inspected (assess act came n (suc a)) a r q (slot (came a)) →
          ((r q : Report) → assess act came n (suc a) r ≡ accepted q → (b : ℕ) → suc a ≤ b → b < suc a + n → Fine q b (slot (came b))) → Fine q b (slot (came b))
      go true t v ih = let k = eqb-true b a t in rw k (here v)
      go false t v ih = let k : b ≢ a = eqb-false b a t in there v (omega arith) ih

  -- the sums are those of some STOP, if they are not those of before
  pub data AtStop (M : Measure) (k : ℕ) : Type 0 where
    at-stop : (b : ℕ) {s : State} {p y : Price} → slot (came b) ≡ held s p → act (jump b s) ≡ done (stops y) → k ≡ M.of p + M.of y → AtStop M k

  module _ (M : Measure) where
    stopped-here : (a : ℕ) (r : Report) (k : ℕ) (s : State) (p : Price) (n : Next) → slot (came a) ≡ held s p → act (jump a s) ≡ done n → k ≡ M.figure (finish p n (reach s r)) → (k ≡ M.figure r) ⊎ AtStop M k
    unfolding finish
    stopped-here a r k s p (stops y) e h f = go (either (M.figure (reach s r)) (M.of p + M.of y))
      where
        l : k ≡ max (M.figure (reach s r)) (M.of p + M.of y)
        l = f ∙ M.stopped p y (reach s r)

        go : (max (M.figure (reach s r)) (M.of p + M.of y) ≡ M.figure (reach s r)) ⊎ (max (M.figure (reach s r)) (M.of p + M.of y) ≡ M.of p + M.of y) → (k ≡ M.figure r) ⊎ AtStop M k
        go (inl g) = inl (l ∙ g ∙ M.reached s r)
        go (inr g) = inr (at-stop a e h (l ∙ g))
    stopped-here a r k s p (goes y t) e h f = inl (f ∙ M.reached s r)
    stopped-here a r k s p (opens y t y' u) e h f = inl (f ∙ M.reached s r)

    pub stopped : (n a : ℕ) (r q : Report) → assess act came n a r ≡ accepted q → (M.figure q ≡ M.figure r) ⊎ AtStop M (M.figure q)
    unfolding assess
    stopped zero a r q e = let h : r ≡ q = cc in inl (ap M.figure (sym h))
    stopped (suc n) a r q e = go (slot (came a)) refl (inspected (assess act came n (suc a)) a r q (slot (came a)) e) (stopped n (suc a))
      where
        here : (s : State) (p : Price) (k : Next) → slot (came a) ≡ held s p → act (jump a s) ≡ done k → (M.figure q ≡ M.figure (finish p k (reach s r))) ⊎ AtStop M (M.figure q) → (M.figure q ≡ M.figure r) ⊎ AtStop M (M.figure q)
        here s p k x h (inl f) = stopped-here a r (M.figure q) s p k x h f
        here s p k x h (inr f) = inr f

        go : (i : Slot) → slot (came a) ≡ i → Inspected (assess act came n (suc a)) a r q i → ((r q : Report) → assess act came n (suc a) r ≡ accepted q → (M.figure q ≡ M.figure r) ⊎ AtStop M (M.figure q)) → (M.figure q ≡ M.figure r) ⊎ AtStop M (M.figure q)
        go empty x (passed f) ih = ih r q f
        go unlike x x5 ih = elim x5 [ ]
        go (held s p) x (made k h f) ih = here s p k x h (ih _ q f)

  -- DEPTH is the height of some merged state, if it is not that of before
  pub data AtHeight (k : ℕ) : Type 0 where
    at-height : (b : ℕ) {s : State} {p : Price} → slot (came b) ≡ held s p → height s ≡ k → AtHeight k

  pub deepest : (n a : ℕ) (r q : Report) → assess act came n a r ≡ accepted q → (q.depth ≡ r.depth) ⊎ AtHeight q.depth
  unfolding assess reach
  deepest zero a r q e = let h : r ≡ q = cc in inl (ap (λ x. x.depth) (sym h))
  deepest (suc n) a r q e = go (slot (came a)) refl (inspected (assess act came n (suc a)) a r q (slot (came a)) e) (deepest n (suc a))
    where
      pick : (s : State) (p : Price) → slot (came a) ≡ held s p → q.depth ≡ max r.depth (height s) → (max r.depth (height s) ≡ r.depth) ⊎ (max r.depth (height s) ≡ height s) → (q.depth ≡ r.depth) ⊎ AtHeight q.depth
      pick s p x f (inl g) = inl (f ∙ g)
      pick s p x f (inr g) = inr (at-height a x (sym (f ∙ g)))

      here : (s : State) (p : Price) (k : Next) → slot (came a) ≡ held s p → (q.depth ≡ (finish p k (reach s r)).depth) ⊎ AtHeight q.depth → (q.depth ≡ r.depth) ⊎ AtHeight q.depth
      here s p k x (inl f) = pick s p x (f ∙ finish-depth p k (reach s r)) (either r.depth (height s))
      here s p k x (inr f) = inr f

      go : (i : Slot) → slot (came a) ≡ i → Inspected (assess act came n (suc a)) a r q i → ((r q : Report) → assess act came n (suc a) r ≡ accepted q → (q.depth ≡ r.depth) ⊎ AtHeight q.depth) → (q.depth ≡ r.depth) ⊎ AtHeight q.depth
      go empty x (passed f) ih = ih r q f
      go unlike x x5 ih = elim x5 [ ]
      go (held s p) x (made k h f) ih = here s p k x (ih _ q f)

  -- STEPS is the number of addresses reached, and PATH is empty
  pub counted : (n a : ℕ) (r q : Report) → assess act came n a r ≡ accepted q → q.steps ≡ r.steps + count came n a
  unfolding assess count one reach
  counted zero a r q e = let h : r ≡ q = cc in let k = ap (λ x. x.steps) h in omega arith
  counted (suc n) a r q e = go (inspected (assess act came n (suc a)) a r q (slot (came a)) e) (counted n (suc a))
    where
      go : {i : Slot} → Inspected (assess act came n (suc a)) a r q i → ((r q : Report) → assess act came n (suc a) r ≡ accepted q → q.steps ≡ r.steps + count came n (suc a)) → q.steps ≡ r.steps + (one i + count came n (suc a))
      go (passed f) ih = let h = ih r q f in omega arith
      go (made {s} {p} k h f) ih = let l = ih _ q f in let m = finish-steps p k (reach s r) in omega arith

  pub pathless : (n a : ℕ) (r q : Report) → r.path ≡ [] → assess act came n a r ≡ accepted q → q.path ≡ []
  unfolding assess
  pathless zero a r q x e = let h : r ≡ q = cc in ap (λ y. y.path) (sym h) ∙ x
  pathless (suc n) a r q x e = go (inspected (assess act came n (suc a)) a r q (slot (came a)) e) (pathless n (suc a))
    where
      go : {i : Slot} → Inspected (assess act came n (suc a)) a r q i → ((r q : Report) → r.path ≡ [] → assess act came n (suc a) r ≡ accepted q → q.path ≡ []) → q.path ≡ []
      go (passed f) ih = ih r q x f
      go (made {s} {p} k h f) ih = ih _ q (finish-path s p k r) f

  -- a refusal, by what the slot of its address holds
  pub data Bad (b : ℕ) : Refusal → Slot → Type 0 where
    no_meeting : Bad b (NoMeeting b) unlike
    is_stuck : {s : State} {p : Price} → act (jump b s) ≡ stuck → Bad b (Stuck b) (held s p)

  pub bad-unique : {b : ℕ} {x y : Refusal} {i : Slot} → Bad b x i → Bad b y i → x ≡ y
  bad-unique no_meeting no_meeting = refl
  bad-unique (is_stuck e) (is_stuck f) = refl

  pub fine-good : {q : Report} {b : ℕ} {i : Slot} → Fine q b i → (x : Refusal) → Bad b x i → ⊥
  fine-good unreached x h = elim h [ ]
  fine-good (carried n e g) x (is_stuck f) = let z : ◌≡◌ {A = ℕ} 0 1 = cc in omega arith

  -- the lowest address with one
  pub record Lowest (a n : ℕ) (x : Refusal) : Type 0 where
    pub address : ℕ
    pub low : a ≤ address
    pub high : address < a + n
    pub bad : Bad address x (slot (came address))
    pub good : (b : ℕ) → a ≤ b → b < address → (y : Refusal) → Bad b y (slot (came b)) → ⊥

  pub lowest : (n a : ℕ) (r : Report) (x : Refusal) → assess act came n a r ≡ refused x → Lowest a n x
  unfolding assess inspect weigh
  lowest zero a r x e = let z : ◌≡◌ {A = ℕ} 0 1 = cc in absurd (omega arith)
  lowest (suc n) a r x e = go (slot (came a)) refl e (lowest n (suc a))
    where
      next : ((y : Refusal) → Bad a y (slot (came a)) → ⊥) → Lowest (suc a) n x → Lowest a (suc n) x
      next g l = record {
        address = l.address;
        low = omega (arith, l.low);
        high = omega (arith, l.high);
        bad = l.bad;
        good = λ b lo hi. each b lo hi (eqb b a) refl;
      }
        where
          each : (b : ℕ) → a ≤ b → b < l.address → (t : Bool) → eqb b a ≡ t → (y : Refusal) → Bad b y (slot (came b)) → ⊥
          each b lo hi true t y k = let m = eqb-true b a t in g y (rw m at k)
          each b lo hi false t y k = let m : b ≢ a = eqb-false b a t in l.good b (omega arith) hi y k

      this : {i : Slot} → slot (came a) ≡ i → Bad a x i → Lowest a (suc n) x
      this f b = record { address = a; low = omega arith; high = omega arith; bad = rw f b; good = λ b lo hi. absurd (omega arith) }

      step : (s : State) (p : Price) (m : Try Next) → act (jump a s) ≡ m → slot (came a) ≡ held s p → weigh (assess act came n (suc a)) a r s p m ≡ refused x →
          ((r : Report) (x : Refusal) → assess act came n (suc a) r ≡ refused x → Lowest (suc a) n x) → Lowest a (suc n) x
      step s p stuck h f e ih = let k : Stuck a ≡ x = cc in this f (rw (← k) (is_stuck h))
      step s p (done m) h f e ih = next (λ y k. fine-good (carried m h (self (finish p m (reach s none)))) y (rw f at k)) (ih _ x e)

      go : (i : Slot) → slot (came a) ≡ i → inspect act (assess act came n (suc a)) a r i ≡ refused x → ((r : Report) (x : Refusal) → assess act came n (suc a) r ≡ refused x → Lowest (suc a) n x) → Lowest a (suc n) x
      go empty f e ih = next (λ y k. fine-good {q = none} unreached y (rw f at k)) (ih r x e)
      go unlike f e ih = let k : NoMeeting a ≡ x = cc in this f (rw (← k) no_meeting)
      go (held s p) f e ih = step s p (act (jump a s)) refl f e ih
