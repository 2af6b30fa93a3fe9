-- Laws of the steps that are recorded of a run: they agree with it, they add up to it, and how large they are. Assumes nothing.
use Prim.Native.Nat.{ℕ, zero, suc, ◌+◌, ◌-◌, ◌≤◌}
use mathlib.Core.Path.{◌≡◌, refl, sym, ap, ◌∙◌}
use mathlib.Core.Bool.{Bool, true, false, cond, not, ◌&&◌, true≢false, false≢true}
use mathlib.Core.List.{List, [], ◌∷◌}
use native.Mathlib.Omega.{arith}
use lib.IntN.{ℤ}
use lib.ListN.{length}
use borrow.Author.Tests.{eq-eqb, le-leb}
use Rattle.text.proofs.TextLaws.{Every, none, more}
use Rattle.cells.specs.Try.{Try, stuck, done}
use Rattle.machine.specs.Machine.{Code, Instruction, fetch, Next, stops, goes, opens, step}
use Rattle.machine.proofs.PriceLaws.{AtMost, Both, Priced, is_stuck, stops_at, goes_at, opens_at, step-price}
use Rattle.machine.proofs.LeadLaws.{Leads, goes-there}
use Rattle.machine.proofs.AddressLaws.{Confined, AddressAtMost, step-at-most}
use Rattle.bound_theory.specs.Run.{Run, answer, moved, leads, once, after, stuck_at, run_is_stuck}
use Rattle.bound_theory.proofs.RunLaws.{after-still}
use Rattle.replay_trace.specs.Traces.{Entry}
use Rattle.replay_steps.specs.Replay.{is_going, step_cost, agrees, agreed, replay_from}
use Rattle.replay_steps.specs.Promises.{spent}
use Rattle.replay_steps.proofs.ReplayLaws.{after_first}
use Rattle.trace_theory.specs.Trace.{recorded, recording}

-- ---- one step

module _ (c : Code) (r : Run) where
  -- a run that makes no step more stays as it is
  once-still : is_going c r ≡ false → once c r ≡ r
  unfolding is_going run_is_stuck once stuck_at moved
  once-still = go r.stopped (leads c r) _
    where
      go : (b : Bool) (m : Try Next) (rest : List ℤ) → (not b && not (stuck_at b m)) ≡ false → moved r rest b m ≡ r
      go true m rest h = refl
      go false stuck rest h = refl
      go false (done (stops p)) rest h = absurd (true≢false h)
      go false (done (goes p t)) rest h = absurd (true≢false h)
      go false (done (opens p t q u)) rest h = refl

  still : (n : ℕ) → is_going c r ≡ false → after c n r ≡ r
  unfolding after
  still n h = after-still c 0 n r (omega arith) (once-still h)

  -- what a step adds
  record Added : Type 0 where
    cycles : (once c r).cycles ≡ r.cycles + step_cost c r
    steps : (once c r).steps ≡ suc r.steps

  grows : is_going c r ≡ true → (r.cycles ≤ (once c r).cycles) × ((once c r).steps ≡ suc r.steps)
  unfolding is_going run_is_stuck once stuck_at moved
  grows h = go r.stopped (leads c r) _ h
    where
      go : (b : Bool) (m : Try Next) (rest : List ℤ) → (not b && not (stuck_at b m)) ≡ true → (r.cycles ≤ (moved r rest b m).cycles) × ((moved r rest b m).steps ≡ suc r.steps)
      go true m rest h = absurd (false≢true h)
      go false stuck rest h = absurd (false≢true h)
      go false (done (stops p)) rest h = (omega arith, refl)
      go false (done (goes p t)) rest h = (omega arith, refl)
      go false (done (opens p t q u)) rest h = absurd (false≢true h)

  adds : is_going c r ≡ true → Added
  unfolding step_cost
  adds h = let g = grows h in record { cycles = omega (arith, g.0); steps = g.1 }

  -- the line of a step agrees with it
  line-agrees : is_going c r ≡ true → agrees c r (recorded c r) ≡ true
  unfolding agrees
  line-agrees h = rw (h, eq-eqb r.state.at r.state.at refl, le-leb (step_cost c r) (step_cost c r) (omega arith)) refl

-- ---- all steps

module _ (c : Code) where
  pub recording-agrees : (k n : ℕ) (r : Run) → replay_from c k r (recording c n r) ≡ agreed
  unfolding recording replay_from
  recording-agrees k zero r = refl
  recording-agrees k (suc n) r = go (is_going c r) refl (recording-agrees (suc k) n (once c r))
    where
      go : (b : Bool) → is_going c r ≡ b → replay_from c (suc k) (once c r) (recording c n (once c r)) ≡ agreed
          → replay_from c k r (cond b (recorded c r ∷ recording c n (once c r)) []) ≡ agreed
      go true h ih = rw (line-agrees c r h) ih
      go false h ih = refl

  -- the sums of the run after the steps, from those before them
  pub record Summed (n : ℕ) (r : Run) (es : List Entry) : Type 0 where
    pub cycles : r.cycles + spent es ≡ (after c n r).cycles
    pub steps : r.steps + length es ≡ (after c n r).steps
    -- the steps that are recorded are all that it made
    pub all : after c n r ≡ after c (length es) r

  pub recording-sums : (n : ℕ) (r : Run) → Summed n r (recording c n r)
  unfolding recording after spent
  recording-sums zero r = record { cycles = omega arith; steps = omega arith; all = refl }
  recording-sums (suc n) r = go (is_going c r) refl (recording-sums n (once c r))
    where
      go : (b : Bool) → is_going c r ≡ b → Summed n (once c r) (recording c n (once c r)) → Summed (suc n) r (cond b (recorded c r ∷ recording c n (once c r)) [])
      go true h ih =
          let a = adds c r h in
          let f = after_first c n r in
          record {
            cycles = omega (arith, a.cycles, ih.cycles, ap (λ (q : Run). q.cycles) f);
            steps = omega (arith, a.steps, ih.steps, ap (λ (q : Run). q.steps) f);
            all = f ∙ ih.all ∙ sym (after_first c (length (recording c n (once c r))) r);
          }
      go false h ih =
          let s = still c r (suc n) h in
          record { cycles = omega (arith, ap (λ (q : Run). q.cycles) s); steps = omega (arith, ap (λ (q : Run). q.steps) s); all = s }

-- ---- how large they are

-- an address up to B, and at most C cycles
pub record Within (B C : ℕ) (e : Entry) : Type 0 where
  pub at : e.at ≤ B
  pub cycles : e.cycles ≤ C

module _ (B C W : ℕ) (c : Code) (confined : Confined B c) (cheap : (a : ℕ) (i : Instruction) → fetch c a ≡ done i → Both (AtMost C W) i.price i.extra) where
  cost-within : (r : Run) → step_cost c r ≤ C
  unfolding step_cost once leads moved
  cost-within r = go r.stopped _ (step-price (AtMost C W) c cheap (answer r.answers) r.state)
    where
      go : (b : Bool) (rest : List ℤ) {m : Try Next} → Priced (AtMost C W) m → (moved r rest b m).cycles - r.cycles ≤ C
      go true rest p = omega arith
      go false rest is_stuck = omega arith
      go false rest (stops_at h) = omega (arith, h.cycles)
      go false rest (goes_at h) = omega (arith, h.cycles)
      go false rest (opens_at x e h k) = omega arith

  once-low : (r : Run) → r.state.at ≤ B → (once c r).state.at ≤ B
  unfolding once leads moved
  once-low r low = go r.stopped (step c (answer r.answers) r.state) _ (λ n e. step-at-most B c confined (answer r.answers) r.state n e)
    where
      go : (b : Bool) (m : Try Next) (rest : List ℤ) → ((n : Next) → m ≡ done n → Leads (AddressAtMost B) n) → (moved r rest b m).state.at ≤ B
      go true m rest k = low
      go false stuck rest k = low
      go false (done (stops p)) rest k = low
      go false (done (goes p t)) rest k = (goes-there (k (goes p t) refl)).address
      go false (done (opens p t q u)) rest k = low

  pub recording-within : (n : ℕ) (r : Run) → r.state.at ≤ B → Every (Within B C) (recording c n r)
  unfolding recording
  recording-within zero r low = none
  recording-within (suc n) r low = go (is_going c r) (recording-within n (once c r) (once-low r low))
    where
      go : (b : Bool) → Every (Within B C) (recording c n (once c r)) → Every (Within B C) (cond b (recorded c r ∷ recording c n (once c r)) [])
      go true ih = more (record { at = low; cycles = cost-within r }) ih
      go false ih = none
