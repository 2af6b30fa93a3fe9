-- The deterministic trace of Definition 2: it is unique, the run makes it, and its cost is within the maximum cost from an erasure of its
-- start (Theorem 14). Assumes nothing.
use mathlib.Core.Path.{◌≡◌, refl, sym, ap, ap₂, ◌∙◌}
use mathlib.Core.Bool.{true, false, true≢false}
use mathlib.Core.List.{List, [], ◌∷◌}
use Prim.Native.Nat.{ℕ, zero, suc, ◌+◌, ◌≤◌}
use native.Mathlib.Omega.{arith}
use lib.IntN.{ℤ}
use lib.ListN.{length}
use Rattle.cells.specs.Try.{Try, stuck, done}
use Rattle.cells.specs.Cells.{unknown}
use Rattle.cells.specs.Order.{Refines}
use Rattle.cells.specs.Covering.{Covered, by_stuck, both}
use Rattle.cells.proofs.CellLaws.{allowed-refines, refines-lawful}
use Rattle.machine.specs.Lists.{nth}
use Rattle.machine.specs.Machine.{State, Next, stops, goes, opens, Code, step, takes_answer, with_extra}
use Rattle.machine.specs.Order.{Cellwise}
use Rattle.machine.specs.Covering.{NextCovered, stops_too, goes_too, opens_too, goes_not_taken, goes_taken}
use Rattle.machine.proofs.StepLaws.{step-law}
use Rattle.bound_theory.specs.Traces.{Move, move, cost, word_sum, CostMax}
use Rattle.bound_theory.specs.Run.{Run, begin, answer, remaining, moved, leads, once, after, DeterministicTrace}
use Rattle.bound_theory.specs.Promises.{Ended, RunsTrace, Theorem14}
use Rattle.bound_theory.proofs.RunLaws.{answered, after-after, after-still, nothing-follows}

module _ (c : Code) where
  unique : {s : State} {answers : List ℤ} {xs ys : List Move} → DeterministicTrace c s answers xs → DeterministicTrace c s answers ys → xs ≡ ys
  unique (DeterministicTrace.stop e) (DeterministicTrace.stop f) = cc
  unique (DeterministicTrace.stop e) (DeterministicTrace.next f y) = cc
  unique (DeterministicTrace.next e x) (DeterministicTrace.stop f) = cc
  unique (DeterministicTrace.next {t} e x) (DeterministicTrace.next {t = t'} f y) =
      let h : t' ≡ t = cc in
      let k = unique x (rw h at y) in
      cc

  -- ---- the run

  -- a step of a run that has not stopped, by what it leads to
  once_by : (r : Run) (m : Try Next) → r.stopped ≡ false → leads c r ≡ m → once c r ≡ moved r (remaining (takes_answer c r.state) r.answers) false m
  unfolding once
  once_by r m e f = ap (λ b. moved r (remaining (takes_answer c r.state) r.answers) b (leads c r)) e ∙ ap (moved r (remaining (takes_answer c r.state) r.answers) false) f

  -- the first step, then the others
  after-suc : (n : ℕ) (r : Run) → after c (suc n) r ≡ after c n (once c r)
  unfolding after
  after-suc n r = let h : suc n ≡ 1 + n = omega arith in ap (λ k. after c k r) h ∙ after-after c 1 n r

  -- a run at a state of a trace, with the answers to come there: what its step leads to, and the run after it
  leads-at : {s : State} {answers : List ℤ} {m : Try Next} (r : Run) → r.state ≡ s → r.answers ≡ answers → step c (answer answers) s ≡ m → leads c r ≡ m
  unfolding leads
  leads-at {s} {answers} r e f g = ap₂ (λ x y. step c (answer x) y) f e ∙ g

  once-at : {s : State} {answers : List ℤ} (m : Try Next) (r : Run) → r.state ≡ s → r.answers ≡ answers → r.stopped ≡ false → step c (answer answers) s ≡ m →
      once c r ≡ moved r (remaining (takes_answer c s) answers) false m
  once-at m r e f g d = once_by r m g (leads-at r e f d) ∙ ap₂ (λ x y. moved r (remaining (takes_answer c x) y) false m) e f

  -- a run at the start of a trace, and at its end
  record Makes (r : Run) (trace : List Move) (end : Run) : Type 0 where
    stopped : end.stopped ≡ true
    cycles : end.cycles ≡ r.cycles + cost trace
    words : end.words ≡ r.words + word_sum trace
    steps : end.steps ≡ r.steps + length trace

  makes : {s : State} {answers : List ℤ} {trace : List Move} → DeterministicTrace c s answers trace → (r : Run) → r.state ≡ s → r.answers ≡ answers → r.stopped ≡ false →
      Makes r trace (after c (length trace) r)
  unfolding after moved cost word_sum
  makes (DeterministicTrace.stop {p} d) r e f g =
      let h = once-at (done (stops p)) r e f g d in
      rw h (record { stopped = refl; cycles = omega arith; words = omega arith; steps = omega arith })
  makes (DeterministicTrace.next {s} {t} {p} {trace} d ds) r e f g =
      let h = once-at (done (goes p t)) r e f g d in
      let k = makes ds (once c r) (ap (λ x. x.state) h) (ap (λ x. x.answers) h) (ap (λ x. x.stopped) h) in
      let cycles = ap (λ x. x.cycles) h in
      let words = ap (λ x. x.words) h in
      let steps = ap (λ x. x.steps) h in
      rw (after-suc (length trace) r) (record { stopped = k.stopped; cycles = omega arith; words = omega arith; steps = omega arith })

  -- and goes by its states
  visits : {s : State} {answers : List ℤ} {trace : List Move} → DeterministicTrace c s answers trace → (r : Run) → r.state ≡ s → r.answers ≡ answers → r.stopped ≡ false →
      (k : ℕ) (m : Move) → nth k trace ≡ done m → (after c k r).state ≡ m.state
  unfolding after moved nth
  visits (DeterministicTrace.stop d) r e f g zero m h = cc
  visits (DeterministicTrace.stop d) r e f g (suc k) m h = cc
  visits (DeterministicTrace.next d ds) r e f g zero m h = cc
  visits (DeterministicTrace.next {s} {t} {p} {trace} d ds) r e f g (suc k) m h =
      let o = once-at (done (goes p t)) r e f g d in
      rw (after-suc k r) (visits ds (once c r) (ap (λ x. x.state) o) (ap (λ x. x.answers) o) (ap (λ x. x.stopped) o) k m h)

  -- a run that has stopped after n steps has a trace
  has-trace : (n : ℕ) (r : Run) → r.stopped ≡ false → (after c n r).stopped ≡ true → (trace : List Move) × DeterministicTrace c r.state r.answers trace × (length trace ≤ n)
  unfolding after leads moved
  has-trace zero r e f = absurd (true≢false (sym f ∙ e))
  has-trace (suc n) r e f = go (has-trace n) (leads c r) refl
    where
      later : (m : Try Next) → leads c r ≡ m → (after c n (moved r (remaining (takes_answer c r.state) r.answers) false m)).stopped ≡ true
      later m d = rw (after-suc n r, once_by r m e d) at f

      go : ((r : Run) → r.stopped ≡ false → (after c n r).stopped ≡ true → (trace : List Move) × DeterministicTrace c r.state r.answers trace × (length trace ≤ n)) →
          (m : Try Next) → leads c r ≡ m → (trace : List Move) × DeterministicTrace c r.state r.answers trace × (length trace ≤ suc n)
      go ih stuck d = let (trace, x, le) = ih r e (later stuck d) in (trace, x, omega arith)
      go ih (done (stops p)) d = (move r.state p [] ∷ [], DeterministicTrace.stop d, omega arith)
      go ih (done (goes p t)) d =
          let (trace, x, le) = ih (moved r (remaining (takes_answer c r.state) r.answers) false (done (goes p t))) refl (later (done (goes p t)) d) in
          (move r.state p [] ∷ trace, DeterministicTrace.next d x, omega arith)
      go ih (done (opens p t q u)) d = let (trace, x, le) = ih r e (later (done (opens p t q u)) d) in (trace, x, omega arith)

  ends : (s : State) (answers : List ℤ) (trace : List Move) → DeterministicTrace c s answers trace → (n : ℕ) → length trace ≤ n → Ended trace (after c n (begin s answers))
  unfolding begin after
  ends s answers trace d n h =
      let k = makes d (begin s answers) refl refl refl in
      rw (after-still c (length trace) n (begin s answers) h (nothing-follows c 1 _ k.stopped))
      (record { stopped = k.stopped; cycles = omega (arith, k.cycles); words = omega (arith, k.words); steps = omega (arith, k.steps) })

pub runs-trace : RunsTrace
unfolding begin
runs-trace c s answers = (λ xs ys x y. unique c x y, λ trace d. visits c d (begin s answers) refl refl refl, ends c s answers, λ n e. has-trace c n (begin s answers) refl e)

-- ---- Theorem 14

module _ (c : Code) where
  -- what a maximum cost comes from, by what the step leads to
  CostBy : Try Next → ℕ → Type 0
  CostBy stuck k = ⊥
  CostBy (done (stops p)) k = k ≡ p.cycles
  CostBy (done (goes p t)) k = (l : ℕ) × CostMax (step c unknown) t l × (k ≡ p.cycles + l)
  CostBy (done (opens p t q u)) k = (l : ℕ) × (m : ℕ) × CostMax (step c unknown) t l × CostMax (step c unknown) u m × (p.cycles + l ≤ k) × (q.cycles + m ≤ k)

  cost-by : {t : State} {k : ℕ} → CostMax (step c unknown) t k → CostBy (step c unknown t) k
  unfolding CostBy with_extra
  cost-by (CostMax.stop e) = rw e refl
  cost-by (CostMax.next {k = l} e d) = rw e (l, d, refl)
  cost-by (CostMax.fork {k = l} {k' = m} x e d d') = rw e (l, m, d, d', omega arith, omega arith)

  -- a trace of cost n, by what its first step leads to: the rest is within every maximum cost from an erasure of where it starts
  TraceBy : Try Next → ℕ → Type 0
  TraceBy stuck n = ⊥
  TraceBy (done (stops p)) n = n ≡ p.cycles
  TraceBy (done (goes p t)) n = (l : ℕ) × (n ≡ p.cycles + l) × ((u : State) (k : ℕ) → Cellwise Refines t u → CostMax (step c unknown) u k → l ≤ k)
  TraceBy (done (opens p t q u)) n = ⊥

  compare : {m m' : Try Next} {n k : ℕ} → Covered (NextCovered (Cellwise Refines) (Unit {0})) m m' → TraceBy m n → CostBy m' k → n ≤ k
  unfolding CostBy TraceBy
  compare by_stuck x d = absurd d
  compare (both stops_too) x d = omega arith
  compare (both (goes_too {t} h)) (l, e, rest) (k, d, f) = let le = rest t k h d in omega arith
  compare (both (opens_too w h h')) x d = absurd x
  compare (both (goes_not_taken {s'} h)) (l, e, rest) (k, k', d, d', f, f') = let le = rest s' k h d in omega arith
  compare (both (goes_taken {t'} h)) (l, e, rest) (k, k', d, d', f, f') = let le = rest t' k' h d' in omega arith

  trace-by : {s : State} {answers : List ℤ} {trace : List Move} → DeterministicTrace c s answers trace → TraceBy (step c (answer answers) s) (cost trace)
  unfolding TraceBy cost
  trace-by (DeterministicTrace.stop e) = rw e (omega arith)
  trace-by (DeterministicTrace.next {s} {answers} {trace} e d) =
      let ih = trace-by d in
      rw e (cost trace, refl, λ u k w m. compare (step-law refines-lawful c (allowed-refines (answered (remaining (takes_answer c s) answers))) w) ih (cost-by m))

pub theorem14 : Theorem14
theorem14 c s answers trace d t e k m = compare c (step-law refines-lawful c (allowed-refines (answered answers)) e) (trace-by c d) (cost-by c m)
