-- Laws of the replay: which line is the first that differs, and what the lines that agree have spent. Assumes nothing.
use Prim.Native.Nat.{ℕ, zero, suc, ◌+◌, ◌-◌, ◌≤◌, ◌<◌}
use mathlib.Core.Path.{◌≡◌, refl, sym, ap, subst, ◌∙◌}
use mathlib.Core.Bool.{Bool, true, false, cond, ◌&&◌}
use mathlib.Core.List.{List, [], ◌∷◌}
use native.Mathlib.Omega.{arith}
use native.Mathlib.Nat.{le_of_suc-le-suc}
use lib.Dec.{eqb, leb}
use lib.IntN.{ℤ}
use lib.ListN.{length, get_or, take}
use borrow.Author.Tests.{leb-true}
use Rattle.text.proofs.TextLaws.{and_right}
use Rattle.cells.specs.Try.{Try, stuck, done}
use Rattle.machine.specs.Machine.{Code, Next, stops, goes, opens}
use Rattle.bound_theory.specs.Run.{Run, moved, leads, once, after}
use Rattle.replay_trace.specs.Traces.{Entry}
use Rattle.replay_steps.specs.Replay.{is_going, step_cost, agrees, agreed, differed, replay_from}
use Rattle.replay_steps.specs.Promises.{no_entry, spent}

not-differed : {X : Type 0} (n : ℕ) → differed n ≡ agreed → X
not-differed n e = let z : ◌≡◌ {A = ℕ} 0 1 = cc in absurd (omega arith)

-- one step first, or last
pub after_first : (c : Code) (k : ℕ) (r : Run) → after c (suc k) r ≡ after c k (once c r)
unfolding after
after_first c zero r = refl
after_first c (suc k) r = ap (once c) (after_first c k r)

module _ (c : Code) where
  -- ---- the first line that differs

  pub agreed-all : (n : ℕ) (r : Run) (es : List Entry) → replay_from c n r es ≡ agreed → (k : ℕ) → k < length es → agrees c (after c k r) (get_or es k no_entry) ≡ true
  unfolding replay_from
  agreed-all n r [] h k l = absurd (omega arith)
  agreed-all n r (e ∷ es) h k l = go (agrees c r e) refl h (agreed-all (suc n) (once c r) es) k l
    where
      go : (b : Bool) → agrees c r e ≡ b → cond b (replay_from c (suc n) (once c r) es) (differed n) ≡ agreed
          → (replay_from c (suc n) (once c r) es ≡ agreed → (k : ℕ) → k < length es → agrees c (after c k (once c r)) (get_or es k no_entry) ≡ true)
          → (k : ℕ) → k < suc (length es) → agrees c (after c k r) (get_or (e ∷ es) k no_entry) ≡ true
      go true q h ih zero l = unfold after in q
      go true q h ih (suc k) l = rw (after_first c k r) (ih h k (le_of_suc-le-suc l))
      go false q h ih k l = not-differed n h

  pub all-agreed : (n : ℕ) (r : Run) (es : List Entry) → ((k : ℕ) → k < length es → agrees c (after c k r) (get_or es k no_entry) ≡ true) → replay_from c n r es ≡ agreed
  unfolding replay_from after
  all-agreed n r [] f = refl
  all-agreed n r (e ∷ es) f =
      rw (f 0 (omega arith))
      (all-agreed (suc n) (once c r) es (λ k l. subst (λ s. agrees c s (get_or es k no_entry) ≡ true) (after_first c k r) (f (suc k) (omega arith))))

  pub record First (n : ℕ) (r : Run) (es : List Entry) (m : ℕ) : Type 0 where
    pub place : ℕ
    pub is : m ≡ place + n
    pub there : place < length es
    pub before : (j : ℕ) → j < place → agrees c (after c j r) (get_or es j no_entry) ≡ true
    pub differs : agrees c (after c place r) (get_or es place no_entry) ≡ false

  pub differed-first : (n m : ℕ) (r : Run) (es : List Entry) → replay_from c n r es ≡ differed m → First n r es m
  unfolding replay_from
  differed-first n m r [] h = not-differed m (sym h)
  differed-first n m r (e ∷ es) h = go (agrees c r e) refl h (differed-first (suc n) m (once c r) es)
    where
      go : (b : Bool) → agrees c r e ≡ b → cond b (replay_from c (suc n) (once c r) es) (differed n) ≡ differed m
          → (replay_from c (suc n) (once c r) es ≡ differed m → First (suc n) (once c r) es m) → First n r (e ∷ es) m
      go true q h ih =
          let f = ih h in
          let g = f.is in
          record {
            place = suc f.place;
            is = omega arith;
            there = omega (arith, f.there);
            before = before f;
            differs = rw (after_first c f.place r) f.differs;
          }
        where
          before : (f : First (suc n) (once c r) es m) → (j : ℕ) → j < suc f.place → agrees c (after c j r) (get_or (e ∷ es) j no_entry) ≡ true
          before f zero l = unfold after in q
          before f (suc j) l = rw (after_first c j r) (f.before j (le_of_suc-le-suc l))
      go false q h ih =
          let z : n ≡ m = cc in
          record { place = 0; is = omega arith; there = omega arith; before = λ j l. absurd (omega arith); differs = unfold after in q }

  pub first-differed : (n k : ℕ) (r : Run) (es : List Entry) → k < length es → ((j : ℕ) → j < k → agrees c (after c j r) (get_or es j no_entry) ≡ true)
      → agrees c (after c k r) (get_or es k no_entry) ≡ false → replay_from c n r es ≡ differed (k + n)
  unfolding replay_from after
  first-differed n k r [] l b d = absurd (omega arith)
  first-differed n zero r (e ∷ es) l b d = rw d (ap differed (omega arith))
  first-differed n (suc k) r (e ∷ es) l b d =
      rw (b 0 (omega arith))
      (first-differed (suc n) k (once c r) es (omega arith)
      (λ j m. subst (λ s. agrees c s (get_or es j no_entry) ≡ true) (after_first c j r) (b (suc j) (omega arith)))
      (subst (λ s. agrees c s (get_or es k no_entry) ≡ false) (after_first c k r) d)
      ∙ ap differed (omega arith))

  -- ---- what the lines have spent

  -- no step takes cycles back
  once_more : (r : Run) → r.cycles ≤ (once c r).cycles
  unfolding once moved
  once_more r = go r.stopped (leads c r) _
    where
      go : (b : Bool) (m : Try Next) (rest : List ℤ) → r.cycles ≤ (moved r rest b m).cycles
      go true m rest = omega arith
      go false stuck rest = omega arith
      go false (done (stops p)) rest = omega arith
      go false (done (goes p t)) rest = omega arith
      go false (done (opens p t q u)) rest = omega arith

  line-within : (r : Run) (e : Entry) → agrees c r e ≡ true → r.cycles + e.cycles ≤ (once c r).cycles
  unfolding agrees step_cost
  line-within r e h =
      let l = leb-true e.cycles ((once c r).cycles - r.cycles) (and_right (is_going c r && eqb r.state.at e.at) (leb e.cycles ((once c r).cycles - r.cycles)) h) in
      omega (arith, once_more r)

  pub spent-within : (n : ℕ) (r : Run) (es : List Entry) → replay_from c n r es ≡ agreed → (k : ℕ) → k ≤ length es → r.cycles + spent (take k es) ≤ (after c k r).cycles
  unfolding replay_from spent after
  spent-within n r es h zero l = omega arith
  spent-within n r [] h (suc k) l = absurd (omega arith)
  spent-within n r (e ∷ es) h (suc k) l = go (agrees c r e) refl h (λ g. spent-within (suc n) (once c r) es g k (omega arith))
    where
      go : (b : Bool) → agrees c r e ≡ b → cond b (replay_from c (suc n) (once c r) es) (differed n) ≡ agreed
          → (replay_from c (suc n) (once c r) es ≡ agreed → (once c r).cycles + spent (take k es) ≤ (after c k (once c r)).cycles)
          → r.cycles + (e.cycles + spent (take k es)) ≤ (once c (after c k r)).cycles
      go true q g ih = let w = line-within r e q in let i = ih g in subst (λ s. r.cycles + (e.cycles + spent (take k es)) ≤ s.cycles) (sym (after_first c k r)) (omega arith)
      go false q g ih = not-differed n g
