-- Demand 3 of any bound that goes by a step's ways: what it accepts at a state it accepts after the step, for what the step leaves.
-- Nothing here knows how the bound is made. Assumes nothing.
use mathlib.Core.Path.{◌≡◌, refl, sym, ◌∙◌, ap}
use mathlib.Core.Bool.{Bool, true, false, true≢false}
use mathlib.Core.List.{List, [], ◌∷◌}
use Prim.Native.Nat.{ℕ, zero, suc, ◌+◌, ◌-◌, ◌≤◌}
use native.Mathlib.Nat.{add-zero, add-suc}
use native.Mathlib.Omega.{arith}
use lib.IntN.{ℤ, pos}
use Rattle.cells.specs.Try.{Try, done}
use Rattle.cells.specs.Cells.{unknown}
use Rattle.cells.specs.Order.{Refines, Allowed}
use Rattle.cells.specs.Covering.{Covered, by_stuck, both}
use Rattle.cells.proofs.CellLaws.{allowed-refines, allowed-plain, number-allowed, allowed-lawful}
use Rattle.machine.specs.Machine.{State, Price, Next, stops, goes, opens, Code, height, step}
use Rattle.machine.specs.Order.{Cellwise}
use Rattle.machine.specs.Covering.{NextCovered, stops_too, goes_too, opens_too, goes_not_taken, goes_taken}
use Rattle.machine.proofs.StateLaws.{cellwise-map, cellwise-self}
use Rattle.machine.proofs.StepLaws.{step-law}
use Rattle.bound_theory.specs.Tree.{Report, Verdict, accepted}
use Rattle.bound_theory.specs.Run.{Run, begin, answer, moved, leads, once, after, stuck_at, run_is_stuck, bounded_afresh, judge_run}
use Rattle.bound_theory.specs.Promises.{NoGreater, Safe, Interruptible, Monotone, NothingFollows}

module _ (c : Code) (M : State → Verdict) where
  -- the bound at t, and a step of price p before it, within the report q
  pub record Leaves (q : Report) (p : Price) (t : State) : Type 0 where
    pub fresh : Report
    pub accepts : M t ≡ accepted fresh
    pub cycles : p.cycles + fresh.cycles ≤ q.cycles
    pub words : p.words + fresh.words ≤ q.words
    pub depth : fresh.depth ≤ q.depth
    pub steps : suc fresh.steps ≤ q.steps

  pub data Ways (q : Report) : Try Next → Type 0 where
    stopping : {p : Price} → p.cycles ≤ q.cycles → p.words ≤ q.words → Ways q (done (stops p))
    going : {p : Price} {t : State} → Leaves q p t → Ways q (done (goes p t))
    opening : {p p' : Price} {t u : State} → Leaves q p t → Leaves q p' u → Ways q (done (opens p t p' u))

  -- what demand 3 asks of a bound: it is monotone, covers its own root, and accepts what each way of a step leaves
  pub record Stepwise : Type 0 where
    pub monotone : Monotone M
    pub root : (s : State) (q : Report) → M s ≡ accepted q → (height s ≤ q.depth) × (1 ≤ q.steps)
    pub ways : (s : State) (q : Report) → Cellwise Refines s s → M s ≡ accepted q → Ways q (step c unknown s)

-- an answer of a run is one that the bound allows
pub answered : (answers : List ℤ) → Allowed (answer answers) unknown
unfolding answer
answered [] = number-allowed (pos 0)
answered (a ∷ rest) = number-allowed a

module _ (c : Code) (M : State → Verdict) (by-steps : Stepwise c M) (q : Report) where
  plain-self : {s t : State} → Cellwise Allowed s t → Cellwise Allowed s s
  plain-self e = cellwise-self (λ a b h. allowed-plain h) e

  erase : {s t : State} → Cellwise Allowed s t → Cellwise Refines s t
  erase e = cellwise-map (λ a b h. allowed-refines h) e

  -- the run r after n steps: it has stopped within q, or what is left from its state, bounded afresh, is within q
  data Within (n : ℕ) (r : Run) : Type 0 where
    ended : r.stopped ≡ true → height r.state ≤ q.depth → r.cycles ≤ q.cycles → r.words ≤ q.words → r.depth ≤ q.depth → r.steps ≤ q.steps → Within n r
    running : (f : Report) → r.stopped ≡ false → Cellwise Allowed r.state r.state → M r.state ≡ accepted f →
        r.cycles + f.cycles ≤ q.cycles → r.words + f.words ≤ q.words → r.depth ≤ q.depth → f.depth ≤ q.depth → r.steps + f.steps ≤ q.steps → r.steps ≡ n → Within n r

  -- a state that t allows, bounded afresh
  afresh : (s t : State) (f : Report) → Cellwise Allowed s t → M t ≡ accepted f → (r : Report) × (M s ≡ accepted r) × NoGreater r f
  afresh s t f e a = by-steps.monotone t f a s (erase e)

  follows : (r : Run) → Cellwise Allowed r.state r.state → Covered (NextCovered (Cellwise Allowed) ⊥) (leads c r) (step c unknown r.state)
  unfolding leads
  follows r e = step-law allowed-lawful c (answered r.answers) e

  -- one plain step, and what is left bounded afresh, cost no more
  step-within : (n : ℕ) (r : Run) (rest : List ℤ) (f : Report) (p : Price) (s t : State) → Cellwise Allowed s t → Leaves c M f p t →
      r.cycles + f.cycles ≤ q.cycles → r.words + f.words ≤ q.words → r.depth ≤ q.depth → f.depth ≤ q.depth → r.steps + f.steps ≤ q.steps → r.steps ≡ n →
      Within (suc n) (moved r rest false (done (goes p s)))
  unfolding moved
  step-within n r rest f p s t e l cy wo de df st co =
      let (g, a, le) = afresh s t l.fresh e l.accepts in
      let h = by-steps.root s g a in
      running g refl (plain-self e) a (omega (arith, l, le)) (omega (arith, l, le)) (omega (arith, l, le, h)) (omega (arith, l, le)) (omega (arith, l, le)) (ap suc co)

  moves : (n : ℕ) (r : Run) (rest : List ℤ) (f : Report) {m m' : Try Next} → Covered (NextCovered (Cellwise Allowed) ⊥) m m' → Ways c M f m' →
      r.cycles + f.cycles ≤ q.cycles → r.words + f.words ≤ q.words → r.depth ≤ q.depth → f.depth ≤ q.depth → r.steps + f.steps ≤ q.steps → r.steps ≡ n → (height r.state ≤ f.depth) × (1 ≤ f.steps) →
      Within (suc n) (moved r rest false m)
  unfolding moved
  moves n r rest f by_stuck x cy wo de df st co on = elim x [ ]
  moves n r rest f (both stops_too) (stopping p w) cy wo de df st co on = ended refl (omega arith) (omega arith) (omega arith) de (omega arith)
  moves n r rest f (both (goes_too {p} {s} {t} e)) (going l) cy wo de df st co on = step-within n r rest f p s t e l cy wo de df st co
  moves n r rest f (both (opens_too no_way e e')) (opening l l') cy wo de df st co on = absurd no_way
  moves n r rest f (both (goes_not_taken {p} {s} {s' = t} e)) (opening l l') cy wo de df st co on = step-within n r rest f p s t e l cy wo de df st co
  moves n r rest f (both (goes_taken {q = p} {t = s} {t' = t} e)) (opening l l') cy wo de df st co on = step-within n r rest f p s t e l' cy wo de df st co

  keeps : (n : ℕ) (r : Run) (rest : List ℤ) (b : Bool) → r.stopped ≡ b → Within n r → Within (suc n) (moved r rest b (leads c r))
  unfolding moved
  keeps n r rest true e (ended g hi cy wo de st) = ended g hi cy wo de st
  keeps n r rest true e (running f g i a cy wo de df st co) = absurd (true≢false (sym e ∙ g))
  keeps n r rest false e (ended g hi cy wo de st) = absurd (true≢false (sym g ∙ e))
  keeps n r rest false e (running f g i a cy wo de df st co) =
      moves n r rest f (follows r i) (by-steps.ways r.state f (erase i) a) cy wo de df st co (by-steps.root r.state f a)

  stays : (n : ℕ) (r : Run) → Within 0 r → Within n (after c n r)
  unfolding after once
  stays zero r i = i
  stays (suc n) r i = keeps n (after c n r) _ (after c n r).stopped refl (stays n r i)

  unstuck : {f : Report} {m m' : Try Next} → Covered (NextCovered (Cellwise Allowed) ⊥) m m' → Ways c M f m' → stuck_at false m ≡ false
  unfolding stuck_at
  unstuck by_stuck w = elim w [ ]
  unstuck (both stops_too) w = refl
  unstuck (both (goes_too e)) w = refl
  unstuck (both (opens_too no_way e e')) w = absurd no_way
  unstuck (both (goes_not_taken e)) w = refl
  unstuck (both (goes_taken e)) w = refl

  low : (n : ℕ) (r : Run) → Within n r → height r.state ≤ q.depth
  low n r (ended g hi cy wo de st) = hi
  low n r (running f g i a cy wo de df st co) = omega (arith, by-steps.root r.state f a)

  lows : (r : Run) → Within 0 r → (n k : ℕ) → k ≤ n → height (after c k r).state ≤ q.depth
  lows r i n k h = low k (after c k r) (stays k r i)

  safe : (start : Run) (n : ℕ) (r : Run) → ((k : ℕ) → k ≤ n → height (after c k start).state ≤ q.depth) → Within n r → Safe c M q start n r
  unfolding run_is_stuck stuck_at bounded_afresh
  safe start n r hs (ended g hi cy wo de st) = record {
    moves = ap (λ b. stuck_at b (leads c r)) g;
    depth = de;
    heights = hs;
    steps = st;
    fresh = record { cycles = 0; words = 0; depth = 0; steps = 0; path = [] };
    accepts = ap (λ b. bounded_afresh M b r.state) g;
    cycles = omega arith;
    words = omega arith;
    stops = λ h. g;
  }
  safe start n r hs (running f g i a cy wo de df st co) = record {
    moves = ap (λ b. stuck_at b (leads c r)) g ∙ unstuck (follows r i) (by-steps.ways r.state f (erase i) a);
    depth = de;
    heights = hs;
    steps = omega arith;
    fresh = f;
    accepts = ap (λ b. bounded_afresh M b r.state) g ∙ a;
    cycles = cy;
    words = wo;
    stops = λ h. absurd (omega (arith, by-steps.root r.state f a));
  }

  always-safe : (start : Run) → Within 0 start → (n : ℕ) → Safe c M q start n (after c n start)
  always-safe start i n = safe start n (after c n start) (lows start i n) (stays n start i)

pub stepwise-interruptible : (c : Code) (M : State → Verdict) → Stepwise c M → Interruptible c M
unfolding begin
stepwise-interruptible c M by-steps t q a s e answers n =
    let (f, b, le) = afresh c M by-steps q s t q e a in
    let h = by-steps.root s f b in
    always-safe c M by-steps q (begin s answers)
    (running f refl (plain-self c M by-steps q e) b (omega (arith, le)) (omega (arith, le)) (omega (arith, le, h)) (omega (arith, le)) (omega (arith, le)) refl) n

-- where one step changes nothing, more change nothing
stays-still : (c : Code) (n : ℕ) (r : Run) → once c r ≡ r → after c n r ≡ r
unfolding after
stays-still c zero r e = refl
stays-still c (suc n) r e = ap (once c) (stays-still c n r e) ∙ e

-- after STOP
moved-stopped : (r : Run) (rest : List ℤ) (m : Try Next) (b : Bool) → b ≡ true → moved r rest b m ≡ r
unfolding moved
moved-stopped r rest m true e = refl
moved-stopped r rest m false e = absurd (true≢false (sym e))

pub nothing-follows : NothingFollows
unfolding once
nothing-follows c n r e = stays-still c n r (moved-stopped r _ (leads c r) r.stopped e)

-- m steps after n
pub after-after : (c : Code) (n m : ℕ) (r : Run) → after c (n + m) r ≡ after c m (after c n r)
unfolding after
after-after c n zero r = rw (add-zero n) refl
after-after c n (suc m) r = rw (add-suc n m) (ap (once c) (after-after c n m r))

-- a run that does not move after n steps is there after all larger numbers of steps
pub after-still : (c : Code) (n m : ℕ) (r : Run) → n ≤ m → once c (after c n r) ≡ after c n r → after c m r ≡ after c n r
after-still c n m r h e =
    let sum : m ≡ n + (m - n) = omega arith in
    ap (λ k. after c k r) sum ∙ after-after c n (m - n) r ∙ stays-still c (m - n) (after c n r) e

-- the run's verdict once STOP is made
pub stopped-verdict : (budget : ℕ) (r : Run) → r.stopped ≡ true →
    judge_run budget r ≡ accepted (record { cycles = r.cycles; words = r.words; depth = r.depth; steps = r.steps; path = [] })
unfolding judge_run
stopped-verdict budget r e = rw e
