-- What comes to an address has come when the sweep reaches it: the sweep is a judgement of the filled table, address by address.
-- Assumes nothing.
use mathlib.Core.Path.{◌≡◌, refl, sym, ◌∙◌, ap, subst}
use mathlib.Core.Bool.{Bool, true, false, cond}
use mathlib.Core.Logic.{◌≢◌, ◌⊎◌, inl, inr}
use mathlib.Core.List.{List, ◌∷◌}
use Prim.Native.Nat.{ℕ, zero, suc, ◌+◌, ◌≤◌, ◌<◌}
use native.Mathlib.Omega.{arith}
use lib.Dec.{eqb}
use borrow.Author.Tests.{eq-eqb, ne_eqb, eqb-true, eqb-false}
use Rattle.refusals.specs.declared.Refusal.TheVariants.{Stuck, NoMeeting}
use Rattle.cells.specs.Try.{Try, stuck, done}
use Rattle.machine.specs.Machine.{State, Price, Next, stops, goes, opens, jump, sum}
use Rattle.machine.proofs.LeadLaws.{Leads, goes_to, opens-to}
use Rattle.machine.proofs.TargetLaws.{Onward}
use Rattle.bound_theory.specs.Tree.{Report, Verdict, accepted, refused}
use Rattle.bound_theory.specs.Traces.{Move, Transition, goes_on, not_taken, taken}
use Rattle.merge_theory.specs.Merge.{Arrival, arrival, Slot, empty, unlike, held, slot, Table, arrive, send, reach, finish, carry, visit, sweep}
use Rattle.merge_theory.specs.Ways.{sent, sends, fill, Among, first, later}

-- the figures and the refusal by a table that does not change
unfoldable pub weigh : (Report → Verdict) → ℕ → Report → State → Price → Try Next → Verdict
weigh rest a r s p stuck = refused (Stuck a)
weigh rest a r s p (done n) = rest (finish p n (reach s r))

unfoldable pub inspect : (State → Try Next) → (Report → Verdict) → ℕ → Report → Slot → Verdict
inspect act rest a r empty = rest r
inspect act rest a r unlike = refused (NoMeeting a)
inspect act rest a r (held s p) = weigh rest a r s p (act (jump a s))

unfoldable pub assess : (State → Try Next) → Table → ℕ → ℕ → Report → Verdict
assess act came zero a r = accepted r
assess act came (suc n) a r = inspect act (assess act came n (suc a)) a r (slot (came a))

-- other addresses keep what they have

pub arrive-other : (x : Arrival) (tab : Table) (b : ℕ) → (b ≡ x.state.at → ⊥) → arrive x tab b ≡ tab b
unfolding arrive
arrive-other x tab b h = rw (ne_eqb b x.state.at h) refl

pub arrive-own : (x : Arrival) (tab : Table) → arrive x tab x.state.at ≡ x ∷ tab x.state.at
unfolding arrive
arrive-own x tab = rw (eq-eqb x.state.at x.state.at refl) refl

-- all that has come stays
pub arrive-keeps : (x : Arrival) (tab : Table) (b : ℕ) (i : Arrival) → Among i (tab b) → Among i (arrive x tab b)
unfolding arrive
arrive-keeps x tab b i h = go (eqb b x.state.at)
  where
    go : (t : Bool) → Among i (cond t (x ∷ tab b) (tab b))
    go true = later h
    go false = h

pub arrive-has : (x : Arrival) (tab : Table) → Among x (arrive x tab x.state.at)
arrive-has x tab = rw (arrive-own x tab) first

-- what has come newly
pub data New (x y : Arrival) (b : ℕ) (tab : Table) : Type 0 where
  itself : x ≡ y → b ≡ y.state.at → New x y b tab
  former : Among x (tab b) → New x y b tab

pub among-head : {x y : Arrival} {xs : List Arrival} → Among x (y ∷ xs) → (x ≡ y) ⊎ Among x xs
among-head first = inl refl
among-head (later k) = inr k

pub arrive-new : (y : Arrival) (tab : Table) (b : ℕ) (x : Arrival) → Among x (arrive y tab b) → New x y b tab
unfolding arrive
arrive-new y tab b x h = go (eqb b y.state.at) refl h
  where
    own : b ≡ y.state.at → (x ≡ y) ⊎ Among x (tab b) → New x y b tab
    own e (inl k) = itself k e
    own e (inr k) = former k

    go : (t : Bool) → eqb b y.state.at ≡ t → Among x (cond t (y ∷ tab b) (tab b)) → New x y b tab
    go true e k = own (eqb-true b y.state.at e) (among-head k)
    go false e k = former k

-- the ways from an address, taken from what its slot holds
pub data From (act : State → Try Next) (a : ℕ) (i : Slot) (b : ℕ) (x : Arrival) : Type 0 where
  from : {s t : State} {p : Price} {m : Move} → i ≡ held s p → Transition act (jump a s) m t → x ≡ arrival t (sum p m.price) → b ≡ t.at → From act a i b x

module _ (act : State → Try Next) where
  send-keeps : (p : Price) (n : Next) (tab : Table) (b : ℕ) (x : Arrival) → Among x (tab b) → Among x (send p n tab b)
  unfolding send
  send-keeps p (stops q) tab b x h = h
  send-keeps p (goes q t) tab b x h = arrive-keeps _ tab b x h
  send-keeps p (opens q t q' u) tab b x h = arrive-keeps _ _ b x (arrive-keeps _ tab b x h)

  sends-keeps : (a : ℕ) (i : Slot) (tab : Table) (b : ℕ) (x : Arrival) → Among x (tab b) → Among x (sends act a i tab b)
  unfolding sends sent
  sends-keeps a empty tab b x h = h
  sends-keeps a unlike tab b x h = h
  sends-keeps a (held s p) tab b x h = go (act (jump a s))
    where
      go : (m : Try Next) → Among x (sent p m tab b)
      go stuck = h
      go (done n) = send-keeps p n tab b x h

  pub fill-keeps : (n a : ℕ) (tab : Table) (b : ℕ) (x : Arrival) → Among x (tab b) → Among x (fill act n a tab b)
  unfolding fill
  fill-keeps zero a tab b x h = h
  fill-keeps (suc n) a tab b x h = fill-keeps n (suc a) _ b x (sends-keeps a (slot (tab a)) tab b x h)

  -- each way comes to its address
  sent-has : (a : ℕ) (s : State) (p : Price) (tab : Table) {m : Move} {t : State} → Transition act (jump a s) m t → Among (arrival t (sum p m.price)) (sent p (act (jump a s)) tab t.at)
  unfolding sent send
  sent-has a s p tab {t = t} (goes_on {p = q} e) = rw e (arrive-has (arrival t (sum p q)) tab)
  sent-has a s p tab {t = t} (not_taken {u = u} {p = q} {q = q'} e) = rw e (arrive-has (arrival t (sum p q)) (arrive (arrival u (sum p q')) tab))
  sent-has a s p tab {t = u} (taken {t = t} {p = q} {q = q'} e) =
      rw e (arrive-keeps (arrival t (sum p q)) _ u.at (arrival u (sum p q')) (arrive-has (arrival u (sum p q')) tab))

  sends-has : (a : ℕ) (i : Slot) (tab : Table) (s : State) (p : Price) {m : Move} {t : State} → i ≡ held s p → Transition act (jump a s) m t → Among (arrival t (sum p m.price)) (sends act a i tab t.at)
  unfolding sends
  sends-has a i tab s p e w = rw e (sent-has a s p tab w)

  -- and nothing else does
  send-from : (a : ℕ) (s : State) (p : Price) (n : Next) (tab : Table) (b : ℕ) (x : Arrival) → act (jump a s) ≡ done n → Among x (send p n tab b) → From act a (held s p) b x ⊎ Among x (tab b)
  unfolding send
  send-from a s p (stops q) tab b x e h = inr h
  send-from a s p (goes q t) tab b x e h = go (arrive-new _ tab b x h)
    where
      go : New x (arrival t (sum p q)) b tab → From act a (held s p) b x ⊎ Among x (tab b)
      go (itself f g) = inl (from refl (goes_on e) f g)
      go (former k) = inr k
  send-from a s p (opens q t q' u) tab b x e h = go (arrive-new _ _ b x h)
    where
      next : New x (arrival u (sum p q')) b tab → From act a (held s p) b x ⊎ Among x (tab b)
      next (itself f g) = inl (from refl (taken e) f g)
      next (former k) = inr k

      go : New x (arrival t (sum p q)) b (arrive (arrival u (sum p q')) tab) → From act a (held s p) b x ⊎ Among x (tab b)
      go (itself f g) = inl (from refl (not_taken e) f g)
      go (former k) = next (arrive-new _ tab b x k)

  sends-from : (a : ℕ) (i : Slot) (tab : Table) (b : ℕ) (x : Arrival) → Among x (sends act a i tab b) → From act a i b x ⊎ Among x (tab b)
  unfolding sends sent
  sends-from a empty tab b x h = inr h
  sends-from a unlike tab b x h = inr h
  sends-from a (held s p) tab b x h = go (act (jump a s)) refl h
    where
      go : (m : Try Next) → act (jump a s) ≡ m → Among x (sent p m tab b) → From act a (held s p) b x ⊎ Among x (tab b)
      go stuck e k = inr k
      go (done n) e k = send-from a s p n tab b x e k

module _ (act : State → Try Next) (z : ℕ) (rising : (s : State) (n : Next) → act s ≡ done n → Leads (Onward s.at z) n) where
  -- addresses that no way leads to
  send-other : (a : ℕ) (p : Price) (n : Next) (tab : Table) (b : ℕ) → Leads (Onward a z) n → ((t : State) → Onward a z t → b ≡ t.at → ⊥) → send p n tab b ≡ tab b
  unfolding send
  send-other a p (stops q) tab b l out = refl
  send-other a p (goes q t) tab b (goes_to o) out = arrive-other _ tab b (out t o)
  send-other a p (opens q t q' u) tab b (opens-to o o') out = arrive-other _ _ b (out t o) ∙ arrive-other _ tab b (out u o')

  sends-other : (a : ℕ) (i : Slot) (tab : Table) (b : ℕ) → ((t : State) → Onward a z t → b ≡ t.at → ⊥) → sends act a i tab b ≡ tab b
  unfolding sends sent jump
  sends-other a empty tab b out = refl
  sends-other a unlike tab b out = refl
  sends-other a (held s p) tab b out = go (act (jump a s)) refl
    where
      go : (m : Try Next) → act (jump a s) ≡ m → sent p m tab b ≡ tab b
      go stuck e = refl
      go (done n) e = send-other a p n tab b (rising (jump a s) n e) out

  pub fill-below : (n a : ℕ) (tab : Table) (b : ℕ) → b < a → fill act n a tab b ≡ tab b
  unfolding fill
  fill-below zero a tab b h = refl
  fill-below (suc n) a tab b h = fill-below n (suc a) _ b (omega arith) ∙ sends-other a (slot (tab a)) tab b (λ t o e. omega (arith, o.above))

  -- an address is filled when it is reached
  fill-own : (n a : ℕ) (tab : Table) → fill act (suc n) a tab a ≡ tab a
  unfolding fill
  fill-own n a tab = fill-below n (suc a) _ a (omega arith) ∙ sends-other a (slot (tab a)) tab a (λ t o e. omega (arith, o.above))

  pub fill_start : (n a : ℕ) (tab : Table) → fill act n a tab a ≡ tab a
  unfolding fill
  fill_start zero a tab = refl
  fill_start (suc n) a tab = fill-own n a tab

  pub swept : (n a : ℕ) (tab : Table) (r : Report) → sweep act n a tab r ≡ assess act (fill act n a tab) n a r
  unfolding sweep assess visit inspect carry weigh fill sends sent
  swept zero a tab r = refl
  swept (suc n) a tab r = each (slot (tab a)) (swept n (suc a)) ∙ ap (λ xs. inspect act (assess act (fill act (suc n) a tab) n (suc a)) a r (slot xs)) (sym (fill-own n a tab))
    where
      made : (s : State) (p : Price) (m : Try Next) → ((tab : Table) (r : Report) → sweep act n (suc a) tab r ≡ assess act (fill act n (suc a) tab) n (suc a) r) →
          carry (sweep act n (suc a)) a tab r s p m ≡ weigh (assess act (fill act n (suc a) (sent p m tab)) n (suc a)) a r s p m
      made s p stuck ih = refl
      made s p (done k) ih = ih (send p k tab) _

      each : (i : Slot) → ((tab : Table) (r : Report) → sweep act n (suc a) tab r ≡ assess act (fill act n (suc a) tab) n (suc a) r) →
          visit act (sweep act n (suc a)) a tab r i ≡ inspect act (assess act (fill act n (suc a) (sends act a i tab)) n (suc a)) a r i
      each empty ih = ih tab r
      each unlike ih = refl
      each (held s p) ih = made s p (act (jump a s)) ih

  -- a way from an address that is reached comes to its own
  pub fill-has : (n a : ℕ) (tab : Table) (b : ℕ) (s : State) (p : Price) {m : Move} {t : State} → a ≤ b → b < a + n → slot (fill act n a tab b) ≡ held s p →
      Transition act (jump b s) m t → Among (arrival t (sum p m.price)) (fill act n a tab t.at)
  unfolding fill
  fill-has zero a tab b s p lo hi e w = absurd (omega arith)
  fill-has (suc n) a tab b s p {m} {t} lo hi e w = go (eqb b a) refl (λ l. fill-has n (suc a) (sends act a (slot (tab a)) tab) b s p l (omega arith))
    where
      go : (y : Bool) → eqb b a ≡ y → (suc a ≤ b → slot (fill act n (suc a) (sends act a (slot (tab a)) tab) b) ≡ held s p → Transition act (jump b s) m t → Among (arrival t (sum p m.price)) (fill act n (suc a) (sends act a (slot (tab a)) tab) t.at)) →
          Among (arrival t (sum p m.price)) (fill act (suc n) a tab t.at)
      go true y ih =
          let k = eqb-true b a y in
          let own : slot (tab a) ≡ held s p = ap slot (sym (fill-own n a tab)) ∙ ap (λ b. slot (fill act (suc n) a tab b)) (sym k) ∙ e in
          fill-keeps act n (suc a) _ t.at _ (sends-has act a (slot (tab a)) tab s p own (rw k at w))
      go false y ih =
          let k : b ≢ a = eqb-false b a y in
          ih (omega arith) e w

  -- what comes to an address has come before, or by a way from an address that is reached
  pub data Source (n a : ℕ) (tab : Table) (b : ℕ) (x : Arrival) : Type 0 where
    before : Among x (tab b) → Source n a tab b x
    by_way : (k : ℕ) → a ≤ k → k < a + n → From act k (slot (fill act n a tab k)) b x → Source n a tab b x

  pub fill-from : (n a : ℕ) (tab : Table) (b : ℕ) (x : Arrival) → Among x (fill act n a tab b) → Source n a tab b x
  unfolding fill
  fill-from zero a tab b x h = before h
  fill-from (suc n) a tab b x h = go (fill-from n (suc a) (sends act a (slot (tab a)) tab) b x h)
    where
      out : From act a (slot (tab a)) b x ⊎ Among x (tab b) → Source (suc n) a tab b x
      out (inl f) = by_way a (omega arith) (omega arith) (subst (λ xs. From act a (slot xs) b x) (sym (fill-own n a tab)) f)
      out (inr k) = before k

      go : Source n (suc a) (sends act a (slot (tab a)) tab) b x → Source (suc n) a tab b x
      go (before k) = out (sends-from act a (slot (tab a)) tab b x k)
      go (by_way k lo hi f) = by_way k (omega arith) (omega arith) f
