-- The sweep of an action at other addresses: the same slots, at addresses that are higher by f. Assumes nothing.
use Prim.Native.Nat.{ℕ, zero, suc, ◌+◌, ◌-◌}
use mathlib.Core.Path.{◌≡◌, refl, ap, ap₂, ◌∙◌}
use mathlib.Core.Bool.{Bool, true, false, cond}
use mathlib.Core.List.{List, [], ◌∷◌, map}
use native.Mathlib.Omega.{arith}
use lib.Dec.{eqb}
use lib.ListN.{length-map}
use borrow.Author.Tests.{eqb-true, eqb-false, eq-eqb, ne_eqb}
use Rattle.cells.specs.Try.{Try, stuck, done, ◌>>=◌}
use Rattle.cells.specs.declared.Cell.{Cell}
use Rattle.merge_cells.specs.Merge.{merge_cells}
use Rattle.machine.specs.Machine.{State, Price, Next, stops, goes, opens, Code, height, jump, sum}
use Rattle.bound_theory.specs.Tree.{Report, Verdict}
use Rattle.merge_theory.specs.Merge.{merge_lists, merge_states, Arrival, arrival, Slot, empty, unlike, held, larger, settle, join, slot, Table, nowhere, arrive, send, reach, finish, carry, visit, sweep, span, only}
use Rattle.relocation_theory.specs.Raised.{raise_instruction, raise_code, raise_state, raise_refusal, raise_verdict}
use Rattle.relocation_theory.proofs.StepLaws.{map_try, raise_next}

-- a state by its parts
abbrev state_of : ℕ → Cell → List Cell → List (List Cell) → State
state_of a c cs bs = record { at = a; accu = c; stack = cs; blocks = bs }

module _ (f : ℕ) where
  -- ---- states that meet

  merge-raised : (s t : State) → merge_states (raise_state f s) (raise_state f t) ≡ map_try (raise_state f) (merge_states s t)
  unfolding merge_states raise_state jump map_try ◌>>=◌
  merge-raised s t = go (merge_cells s.accu t.accu) (merge_lists merge_cells s.stack t.stack) (merge_lists (merge_lists merge_cells) s.blocks t.blocks)
    where
      go : (a : Try Cell) (cs : Try (List Cell)) (bs : Try (List (List Cell))) →
          (a >>= λ x. cs >>= λ y. bs >>= λ z. done (state_of (s.at + f) x y z)) ≡ map_try (raise_state f) (a >>= λ x. cs >>= λ y. bs >>= λ z. done (state_of s.at x y z))
      go stuck cs bs = refl
      go (done x) stuck bs = refl
      go (done x) (done y) stuck = refl
      go (done x) (done y) (done z) = refl

  raise_arrival : Arrival → Arrival
  raise_arrival x = arrival (raise_state f x.state) x.spent

  raise_slot : Slot → Slot
  raise_slot empty = empty
  raise_slot unlike = unlike
  raise_slot (held s p) = held (raise_state f s) p

  settle-raised : (p : Price) (m : Try State) → settle p (map_try (raise_state f) m) ≡ raise_slot (settle p m)
  unfolding settle map_try raise_slot
  settle-raised p stuck = refl
  settle-raised p (done s) = refl

  join-raised : (x : Slot) (y : Arrival) → join (raise_slot x) (raise_arrival y) ≡ raise_slot (join x y)
  unfolding join raise_slot raise_arrival
  join-raised empty y = refl
  join-raised unlike y = refl
  join-raised (held s p) y = ap (settle (larger p y.spent)) (merge-raised s y.state) ∙ settle-raised (larger p y.spent) (merge_states s y.state)

  slot-raised : (xs : List Arrival) → slot (map raise_arrival xs) ≡ raise_slot (slot xs)
  unfolding slot raise_slot
  slot-raised [] = refl
  slot-raised (x ∷ xs) = ap (λ y. join y (raise_arrival x)) (slot-raised xs) ∙ join-raised (slot xs) x

  -- ---- what comes to the addresses

  abbrev Higher : Table → Table → Type 0
  Higher tab up = (a : ℕ) → up (a + f) ≡ map raise_arrival (tab a)

  same_address : (a b : ℕ) → eqb (a + f) (b + f) ≡ eqb a b
  same_address a b = go (eqb a b) refl
    where
      go : (t : Bool) → eqb a b ≡ t → eqb (a + f) (b + f) ≡ t
      go true e = let q = eqb-true a b e in eq-eqb (a + f) (b + f) (omega arith)
      go false e = let q = eqb-false a b e in ne_eqb (a + f) (b + f) (λ h. q (omega arith))

  arrive-raised : (x : Arrival) (tab up : Table) → Higher tab up → Higher (arrive x tab) (arrive (raise_arrival x) up)
  unfolding arrive raise_arrival raise_state jump
  arrive-raised x tab up h a =
      ap₂ (λ b xs. cond b (raise_arrival x ∷ xs) xs) (same_address a x.state.at) (h a) ∙ go (eqb a x.state.at)
    where
      go : (b : Bool) → cond b (raise_arrival x ∷ map raise_arrival (tab a)) (map raise_arrival (tab a)) ≡ map raise_arrival (cond b (x ∷ tab a) (tab a))
      go true = refl
      go false = refl

  send-raised : (p : Price) (n : Next) (tab up : Table) → Higher tab up → Higher (send p n tab) (send p (raise_next f n) up)
  unfolding send raise_next raise_arrival
  send-raised p (stops q) tab up h = h
  send-raised p (goes q t) tab up h = arrive-raised (arrival t (sum p q)) tab up h
  send-raised p (opens q t r u) tab up h =
      arrive-raised (arrival t (sum p q)) (arrive (arrival u (sum p r)) tab) (arrive (raise_arrival (arrival u (sum p r))) up) (arrive-raised (arrival u (sum p r)) tab up h)

  only-raised : (s : State) → Higher (only s) (only (raise_state f s))
  unfolding only nowhere raise_arrival
  only-raised s = arrive-raised (arrival s (record { cycles = 0; words = 0 })) nowhere nowhere (λ a. refl)

  finish-raised : (p : Price) (n : Next) (r : Report) → finish p (raise_next f n) r ≡ finish p n r
  unfolding finish raise_next
  finish-raised p (stops q) r = refl
  finish-raised p (goes q t) r = refl
  finish-raised p (opens q t q' u) r = refl

  reach-raised : (s : State) (r : Report) → reach (raise_state f s) r ≡ reach s r
  unfolding reach raise_state jump height
  reach-raised s r = refl

  -- ---- the sweep

  module _ (act high : State → Try Next) (same : (s : State) → high (raise_state f s) ≡ map_try (raise_next f) (act s)) where
    acts : (a : ℕ) (s : State) → high (jump (a + f) (raise_state f s)) ≡ map_try (raise_next f) (act (jump a s))
    unfolding jump raise_state
    acts a s = same (jump a s)

    -- one address, where the rest of the sweep is the same
    module _ (rest over : Table → Report → Verdict) (ih : (t u : Table) (q : Report) → Higher t u → over u q ≡ raise_verdict f (rest t q)) (a : ℕ) (tab up : Table) (h : Higher tab up) (r : Report) where
      carried : (s : State) (p : Price) (m : Try Next) → carry over (a + f) up r (raise_state f s) p (map_try (raise_next f) m) ≡ raise_verdict f (carry rest a tab r s p m)
      unfolding carry map_try raise_verdict raise_refusal
      carried s p stuck = refl
      carried s p (done x) =
          ap (over (send p (raise_next f x) up)) (ap (finish p (raise_next f x)) (reach-raised s r) ∙ finish-raised p x (reach s r))
          ∙ ih (send p x tab) (send p (raise_next f x) up) (finish p x (reach s r)) (send-raised p x tab up h)

      visited : (x : Slot) → visit high over (a + f) up r (raise_slot x) ≡ raise_verdict f (visit act rest a tab r x)
      unfolding visit raise_slot raise_verdict raise_refusal
      visited empty = ih tab up r h
      visited unlike = refl
      visited (held s p) = ap (carry over (a + f) up r (raise_state f s) p) (acts a s) ∙ carried s p (act (jump a s))

    sweep-raised : (n a : ℕ) (tab up : Table) (r : Report) → Higher tab up → sweep high n (a + f) up r ≡ raise_verdict f (sweep act n a tab r)
    unfolding sweep raise_verdict
    sweep-raised zero a tab up r h = refl
    sweep-raised (suc n) a tab up r h =
        let e : suc (a + f) ≡ suc a + f = omega arith in
        ap (λ x. visit high (sweep high n (suc (a + f))) (a + f) up r x) (ap slot (h a) ∙ slot-raised (tab a))
        ∙ visited (sweep act n (suc a)) (sweep high n (suc (a + f))) (λ t u q k. ap (λ b. sweep high n b u q) e ∙ sweep-raised n (suc a) t u q k) a tab up h r (slot (tab a))

  pub span-raised : (c : Code) (s : State) → span (raise_code f c) (raise_state f s) ≡ span c s
  unfolding raise_code raise_state jump
  span-raised c s = let l = length-map c.instructions (raise_instruction f) in omega arith

  pub swept-raised : (act high : State → Try Next) → ((s : State) → high (raise_state f s) ≡ map_try (raise_next f) (act s)) → (n : ℕ) (s : State) (r : Report) →
      sweep high n (raise_state f s).at (only (raise_state f s)) r ≡ raise_verdict f (sweep act n s.at (only s) r)
  unfolding raise_state jump
  swept-raised act high same n s r = sweep-raised act high same n s.at (only s) (only (raise_state f s)) r (only-raised s)
