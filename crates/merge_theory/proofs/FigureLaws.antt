-- How large the figures of the merging bound can be, by the largest price, the addresses reached and the stack's limit; and where a
-- refusal can be. What the ways to an address have cost keeps the same limits on the way. Assumes nothing.
use mathlib.Core.Path.{◌≡◌, refl, sym, ap, subst}
use mathlib.Core.Bool.{Bool, true, false, cond}
use mathlib.Core.List.{[], ◌∷◌}
use Prim.Native.Nat.{ℕ, zero, suc, ◌+◌, ◌*◌, ◌≤◌, ◌<◌}
use native.Mathlib.Omega.{arith}
use lib.Dec.{eqb}
use Rattle.refusals.specs.Refusals.{place}
use Rattle.refusals.specs.declared.Refusal.{Refusal}
use Rattle.refusals.specs.declared.Refusal.TheVariants.{Stuck, NoMeeting}
use Rattle.cells.specs.Try.{Try, stuck, done}
use Rattle.cells.specs.Cells.{unknown}
use Rattle.cells.specs.Covering.{Covered, by_stuck, both}
use Rattle.machine.specs.Machine.{State, Price, Instruction, Code, fetch, Next, stops, goes, opens, stack_limit, height, jump, sum, step}
use Rattle.machine.proofs.PriceLaws.{AtMost, Both, Priced, stops_at, goes_at, opens_at, step-price}
use Rattle.machine.proofs.LeadLaws.{Leads, goes_to, opens-to}
use Rattle.machine.proofs.HeightLaws.{Low, step-low}
use Rattle.bound_theory.specs.Tree.{Report, accepted, refused}
use Rattle.bound_theory.proofs.TreeLaws.{contradiction}
use Rattle.bound_theory.proofs.FigureLaws.{Bounded}
use Rattle.merge_theory.specs.Merge.{Arrival, Slot, empty, unlike, held, larger, settle, join, slot, Table, nowhere, arrive, send, reach, finish, carry, visit, sweep, end, span, only, none, merged}
use Rattle.merge_theory.specs.Ways.{Under}
use Rattle.merge_theory.proofs.MergeLaws.{under-self, under-height, states-merging}
use Rattle.merge_theory.proofs.AssessLaws.{finish-steps}

-- ---- figures

module _ (C W : ℕ) where
  -- what comes after at most n addresses
  pub record Mild (n : ℕ) (s : State) (p : Price) : Type 0 where
    pub low : Low s
    pub cycles : p.cycles ≤ C * n
    pub words : p.words ≤ W * n

  pub data MildSlot (n : ℕ) : Slot → Type 0 where
    mild-empty : MildSlot n empty
    mild-unlike : MildSlot n unlike
    mild-held : {s : State} {p : Price} → Mild n s p → MildSlot n (held s p)

  longer : {n : ℕ} {i : Slot} → MildSlot n i → MildSlot (suc n) i
  longer mild-empty = mild-empty
  longer mild-unlike = mild-unlike
  longer (mild-held {s} {p} h) = mild-held {s = s} {p = p} (record { low = h.low; cycles = omega (arith, h.cycles); words = omega (arith, h.words) })

  larger-mild : {n : ℕ} (m : State) {s t : State} {p q : Price} → Low m → Mild n s p → Mild n t q → Mild n m (larger p q)
  unfolding larger
  larger-mild m l h k = record { low = l; cycles = omega (arith, h.cycles, k.cycles); words = omega (arith, h.words, k.words) }

  join-mild : {n : ℕ} {i : Slot} (x : Arrival) → Mild n x.state x.spent → MildSlot n i → MildSlot n (join i x)
  unfolding join settle
  join-mild x h mild-empty = mild-held h
  join-mild x h mild-unlike = mild-unlike
  join-mild {n} x h (mild-held {s} {p} k) = go (states-merging.left s s x.state (under-self s))
    where
      go : {m : Try State} → Covered Under (done s) m → MildSlot n (settle (larger p x.spent) m)
      go by_stuck = mild-unlike
      go (both {b = m} u) = mild-held (larger-mild m (record { low = omega (arith, under-height u, k.low.low) }) k h)

  pub record MildTable (n : ℕ) (tab : Table) : Type 0 where
    pub slots : (b : ℕ) → MildSlot n (slot (tab b))

  arrive-mild : {n : ℕ} {tab : Table} (x : Arrival) → Mild n x.state x.spent → MildTable n tab → MildTable n (arrive x tab)
  unfolding arrive slot
  arrive-mild {n} {tab} x h k = record { slots = λ b. go b (eqb b x.state.at) }
    where
      go : (b : ℕ) (t : Bool) → MildSlot n (slot (cond t (x ∷ tab b) (tab b)))
      go b true = join-mild x h (k.slots b)
      go b false = k.slots b

  table-longer : {n : ℕ} {tab : Table} → MildTable n tab → MildTable (suc n) tab
  table-longer k = record { slots = λ b. longer (k.slots b) }

  -- the figures so far
  pub record MildFigures (r : Report) : Type 0 where
    pub cycles : r.cycles ≤ C * r.steps
    pub words : r.words ≤ W * r.steps
    pub depth : r.depth ≤ stack_limit
    pub path : r.path ≡ []

  paid : {n : ℕ} (s t : State) (p q : Price) → Low t → Mild n s p → AtMost C W q → Mild (suc n) t (sum p q)
  paid s t p q l h a = record { low = l; cycles = omega (arith, h.cycles, a.cycles); words = omega (arith, h.words, a.words) }

  pub send-mild : {n : ℕ} {tab : Table} (s : State) (p : Price) (k : Next) → Mild n s p → Priced (AtMost C W) (done k) → Leads Low k → MildTable n tab → MildTable (suc n) (send p k tab)
  unfolding send
  send-mild s p (stops q) h a l t = table-longer t
  send-mild s p (goes q u) h (goes_at a) (goes_to l) t = arrive-mild _ (paid s u p q l h a) (table-longer t)
  send-mild s p (opens q u q' v) h (opens_at x e a b) (opens-to l l') t = arrive-mild _ (paid s u p q l h a) (arrive-mild _ (paid s v p q' l' h b) (table-longer t))

  pub finish-mild : (s : State) (p : Price) (k : Next) (r : Report) → Mild r.steps s p → Priced (AtMost C W) (done k) → MildFigures r → MildFigures (finish p k (reach s r))
  unfolding finish reach
  finish-mild s p (stops q) r h (stops_at a) f = record { cycles = omega (arith, h.cycles, a.cycles, f.cycles); words = omega (arith, h.words, a.words, f.words); depth = omega (arith, h.low.low, f.depth); path = refl }
  finish-mild s p (goes q t) r h a f = record { cycles = omega (arith, f.cycles); words = omega (arith, f.words); depth = omega (arith, h.low.low, f.depth); path = refl }
  finish-mild s p (opens q t q' u) r h a f = record { cycles = omega (arith, f.cycles); words = omega (arith, f.words); depth = omega (arith, h.low.low, f.depth); path = refl }

  counted : (s : State) (p : Price) (k : Next) (r : Report) → (finish p k (reach s r)).steps ≡ suc r.steps
  unfolding reach
  counted s p k r = finish-steps p k (reach s r)

  module _ (act : State → Try Next) (cheap : (s : State) → Priced (AtMost C W) (act s)) (lows : (s : State) (n : Next) → act s ≡ done n → Low s → Leads Low n) where
    jump_low : (a : ℕ) (s : State) → Low s → Low (jump a s)
    unfolding jump height
    jump_low a s h = record { low = h.low }

    pub sweep-mild : (n a : ℕ) (tab : Table) (r q : Report) → MildTable r.steps tab → MildFigures r → sweep act n a tab r ≡ accepted q → MildFigures q × (q.steps ≤ r.steps + n)
    unfolding sweep visit carry
    sweep-mild zero a tab r q t f e = let h : r ≡ q = cc in (rw h at f, omega (arith, ap (λ x. x.steps) h))
    sweep-mild (suc n) a tab r q t f e = each (t.slots a) e (sweep-mild n (suc a))
      where
        made : (s : State) (p : Price) (m : Try Next) → act (jump a s) ≡ m → Mild r.steps s p → carry (sweep act n (suc a)) a tab r s p m ≡ accepted q →
            ((tab : Table) (r q : Report) → MildTable r.steps tab → MildFigures r → sweep act n (suc a) tab r ≡ accepted q → MildFigures q × (q.steps ≤ r.steps + n)) →
            MildFigures q × (q.steps ≤ r.steps + suc n)
        made s p stuck h m e ih = contradiction _ _ e
        made s p (done k) h m e ih =
            let a' = subst (Priced (AtMost C W)) h (cheap (jump a s)) in
            let u = send-mild s p k m a' (lows (jump a s) k h (jump_low a s m.low)) t in
            let (g, l) = ih (send p k tab) (finish p k (reach s r)) q (subst (λ x. MildTable x (send p k tab)) (sym (counted s p k r)) u) (finish-mild s p k r m a' f) e in
            (g, omega (arith, l, counted s p k r))

        each : {i : Slot} → MildSlot r.steps i → visit act (sweep act n (suc a)) a tab r i ≡ accepted q →
            ((tab : Table) (r q : Report) → MildTable r.steps tab → MildFigures r → sweep act n (suc a) tab r ≡ accepted q → MildFigures q × (q.steps ≤ r.steps + n)) →
            MildFigures q × (q.steps ≤ r.steps + suc n)
        each mild-empty e ih = let (g, l) = ih tab r q t f e in (g, omega arith)
        each mild-unlike e ih = contradiction _ _ e
        each (mild-held {s} {p} m) e ih = made s p (act (jump a s)) refl m e ih

  pub only-mild : (s : State) → Low s → MildTable 0 (only s)
  unfolding only nowhere slot
  only-mild s h = arrive-mild _ (record { low = h; cycles = omega arith; words = omega arith }) (record { slots = λ b. mild-empty })

  pub merged-bounded : (c : Code) → ((a : ℕ) (i : Instruction) → fetch c a ≡ done i → Both (AtMost C W) i.price i.extra) → (s : State) → Low s → (q : Report) →
      merged c s ≡ accepted q → Bounded C W (span c s) q
  unfolding merged
  merged-bounded c cheap s h q e =
      let begun : MildFigures none = record { cycles = omega arith; words = omega arith; depth = omega arith; path = refl } in
      let (g, l) = sweep-mild (step c unknown) (step-price (AtMost C W) c cheap unknown) (step-low c unknown) (span c s) s.at (only s) none q (only-mild s h) begun e in
      record { cycles = g.cycles; words = g.words; depth = g.depth; steps = omega (arith, l); path = rw g.path (omega arith) }

-- ---- the place of a refusal

module _ (act : State → Try Next) where
  pub sweep-place : (n a : ℕ) (tab : Table) (r : Report) (x : Refusal) → sweep act n a tab r ≡ refused x → place x < a + n
  unfolding sweep visit carry place
  sweep-place zero a tab r x e = let z : ◌≡◌ {A = ℕ} 0 1 = cc in absurd (omega arith)
  sweep-place (suc n) a tab r x e = each (slot (tab a)) e (sweep-place n (suc a))
    where
      made : (s : State) (p : Price) (m : Try Next) → carry (sweep act n (suc a)) a tab r s p m ≡ refused x → ((tab : Table) (r : Report) (x : Refusal) → sweep act n (suc a) tab r ≡ refused x → place x < suc a + n) → place x < a + suc n
      made s p stuck e ih = let f : Stuck a ≡ x = cc in rw (← f) (omega arith)
      made s p (done k) e ih = let h = ih _ _ x e in omega arith

      each : (i : Slot) → visit act (sweep act n (suc a)) a tab r i ≡ refused x → ((tab : Table) (r : Report) (x : Refusal) → sweep act n (suc a) tab r ≡ refused x → place x < suc a + n) → place x < a + suc n
      each empty e ih = let h = ih tab r x e in omega arith
      each unlike e ih = let f : NoMeeting a ≡ x = cc in rw (← f) (omega arith)
      each (held s p) e ih = made s p (act (jump a s)) e ih

pub merged-place : (B : ℕ) (c : Code) → end c ≤ B → (s : State) → s.at ≤ B → (x : Refusal) → merged c s ≡ refused x → place x ≤ B
unfolding merged
merged-place B c h s k x e = omega (arith, sweep-place (step c unknown) (span c s) s.at (only s) none x e)
