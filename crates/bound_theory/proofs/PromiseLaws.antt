-- The bound by trees is monotone and goes by a step's ways, so demand 3 holds of it; and its reports are exact (demand 2).
-- With any number of openings on a path. Assumes nothing.
use mathlib.Core.Path.{◌≡◌, refl, ap, ◌∙◌}
use mathlib.Core.List.{[]}
use Prim.Native.Nat.{ℕ, zero, suc, ◌+◌, ◌≤◌}
use native.Mathlib.Omega.{arith}
use Rattle.cells.specs.Try.{Try, stuck, done}
use Rattle.cells.specs.Cells.{unknown}
use Rattle.cells.specs.Order.{Refines, same}
use Rattle.cells.proofs.CellLaws.{refines-lawful}
use Rattle.machine.specs.Machine.{State, Price, Next, stops, goes, opens, Code, step}
use Rattle.machine.specs.Order.{Cellwise}
use Rattle.machine.proofs.NextCovering.{Leads, leads-self}
use Rattle.machine.proofs.StateLaws.{height-law}
use Rattle.machine.proofs.StepLaws.{step-law}
use Rattle.machine.proofs.PriceLaws.{opening-price}
use Rattle.bound_theory.specs.Tree.{Tree, expand, tree, cycles, words, depth, size, Report, report, accepted, opening_limit, explore, bound, verdict}
use Rattle.bound_theory.specs.Traces.{CostMax}
use Rattle.bound_theory.specs.Run.{begin, after, run}
use Rattle.bound_theory.specs.Promises.{NoGreater, Exact, Interruptible, Monotone, BoundExact, StepsListed, OneMaximum, AcceptedWhere, RefusedWhere, FuelIrrelevant, RunWithinBound}
use Rattle.bound_theory.proofs.TreeLaws.{Complete, tree-law, tree-root, steps-size, accepted-complete, complete-accepted}
use Rattle.bound_theory.proofs.FuelLaws.{verdict-fuel}
use Rattle.bound_theory.proofs.MaxLaws.{OpensWithExtra, cost-unique, run-unique, tree-worst}
use Rattle.bound_theory.proofs.PathLaws.{tree-costliest, tree-wordiest, tree-height}
use Rattle.bound_theory.proofs.ListedLaws.{accepted-finite, finite-accepted, refused-listed, listed-refused}
use Rattle.bound_theory.proofs.RunLaws.{Leaves, Ways, stopping, going, opening, Stepwise, stepwise-interruptible, stopped-verdict}

equal-reports : (r q : Report) → r ≡ q → NoGreater r q
equal-reports r q e = rw e (omega arith)

-- the action of the bound
abbrev acts : Code → State → Try Next
acts c = step c unknown

module _ (c : Code) (limit budget : ℕ) where
  whole : State → Tree
  whole s = tree (acts c) budget limit s

  -- what the bound accepts is a complete tree within the budget
  complete-of : (t : State) (q : Report) → explore (acts c) limit budget t ≡ accepted q → Complete (whole t) × (size (whole t) ≤ budget) × (report (whole t) ≡ q)
  unfolding explore verdict whole
  complete-of t q e = accepted-complete (whole t) budget (report (whole t)) q e

  -- bounded afresh, from a state that refines one that has a complete tree
  afresh : (f o : ℕ) (s t : State) → Cellwise Refines s t → f ≤ budget → o ≤ limit → Complete (tree (acts c) f o t) → size (tree (acts c) f o t) ≤ budget →
      (explore (acts c) limit budget s ≡ accepted (report (whole s))) × NoGreater (report (whole s)) (report (tree (acts c) f o t))
  unfolding explore verdict whole report
  afresh f o s t e lf lo w le =
      let k = tree-law (λ s t e. height-law e) (acts c) (acts c) (λ s t e. step-law refines-lawful c same e) budget f limit o s t lf lo e w in
      (complete-accepted (whole s) budget (report (whole s)) k.complete (omega (arith, k.less.steps)), k.less)

  pub monotone : Monotone (explore (acts c) limit budget)
  unfolding whole
  monotone t q a s e =
      let (w, le, eq) = complete-of t q a in
      let (b, l) = afresh budget limit s t e (omega arith) (omega arith) w le in
      (report (whole s), b, omega (arith, equal-reports _ q eq, l))

  leaves : (q : Report) (p : Price) (f o : ℕ) (t : State) → Cellwise Refines t t → f ≤ budget → o ≤ limit → Complete (tree (acts c) f o t) → size (tree (acts c) f o t) ≤ budget →
      p.cycles + cycles (tree (acts c) f o t) ≤ q.cycles → p.words + words (tree (acts c) f o t) ≤ q.words →
      depth (tree (acts c) f o t) ≤ q.depth → suc (size (tree (acts c) f o t)) ≤ q.steps → Leaves c (explore (acts c) limit budget) q p t
  unfolding report
  leaves q p f o t e lf lo w le cy wo de st =
      let (b, l) = afresh f o t t e lf lo w le in
      record { fresh = report (whole t); accepts = b; cycles = omega (arith, l); words = omega (arith, l); depth = omega (arith, l); steps = omega (arith, l) }

  ways : (q : Report) (f o : ℕ) (s : State) (m : Try Next) → Leads (λ s. Cellwise Refines s s) m → suc f ≤ budget → o ≤ limit → Complete (expand (tree (acts c) f) o s m) →
      size (expand (tree (acts c) f) o s m) ≤ budget → NoGreater (report (expand (tree (acts c) f) o s m)) q → Ways c (explore (acts c) limit budget) q m
  unfolding expand report cycles words depth size
  ways q f o s stuck e lf lo w le l = absurd w
  ways q f o s (done (stops p)) e lf lo w le l = stopping l.cycles l.words
  ways q f o s (done (goes p t)) e lf lo w le l =
      going (leaves q p f o t e (omega arith) lo w (omega arith) (omega arith) (omega arith) (omega arith) (omega arith))
  ways q f zero s (done (opens p t p' u)) e lf lo w le l = absurd w
  ways q f (suc o) s (done (opens p t p' u)) e lf lo w le l =
      opening
      (leaves q p f o t e.0 (omega arith) (omega arith) w.0 (omega arith) (omega arith) (omega arith) (omega arith) (omega arith))
      (leaves q p' f o u e.1 (omega arith) (omega arith) w.1 (omega arith) (omega arith) (omega arith) (omega arith) (omega arith))

  tree-ways : (q : Report) (f : ℕ) (s : State) → Cellwise Refines s s → f ≤ budget → Complete (tree (acts c) f limit s) → size (tree (acts c) f limit s) ≤ budget →
      NoGreater (report (tree (acts c) f limit s)) q → Ways c (explore (acts c) limit budget) q (step c unknown s)
  unfolding tree
  tree-ways q zero s e lf w le l = absurd w
  tree-ways q (suc f) s e lf w le l = ways q f limit s (step c unknown s) (leads-self refl (step-law refines-lawful c same e)) lf (omega arith) w le l

  stepwise : Stepwise c (explore (acts c) limit budget)
  unfolding whole report
  stepwise = record {
    monotone = monotone;
    root = λ s q a. let (w, le, eq) = complete-of s q a in let k = tree-root (acts c) budget limit s in omega (arith, k, equal-reports _ q eq);
    ways = λ s q e a. let (w, le, eq) = complete-of s q a in tree-ways q budget s e (omega arith) w le (equal-reports _ q eq);
  }

  -- demand 3
  pub interruptible : Interruptible c (explore (acts c) limit budget)
  interruptible = stepwise-interruptible c (explore (acts c) limit budget) stepwise

  -- CYCLES is the maximum cost
  extra : OpensWithExtra (acts c)
  extra s t u p q e = opening-price c unknown s e

  pub worst : (s : State) (q : Report) → explore (acts c) limit budget s ≡ accepted q → CostMax (acts c) s q.cycles
  unfolding whole report
  worst s q a =
      let (w, le, eq) = complete-of s q a in
      let h = ap (λ r. r.cycles) eq in
      rw h at (tree-worst (acts c) extra budget limit s w).most

-- demand 2
pub exact : (c : Code) (openings budget : ℕ) (s : State) (q : Report) → explore (acts c) openings budget s ≡ accepted q → Exact c openings s q
unfolding whole report
exact c openings budget s q a =
    let (w, le, eq) = complete-of c openings budget s q a in
    let k = tree-worst (acts c) (extra c openings budget) budget openings s w in
    let (f, fits) = accepted-finite (acts c) budget openings s q a in
    rw (← eq) (record {
      cycles = k.most;
      costliest = tree-costliest (acts c) budget openings s w;
      trace = k.trace;
      worst = k.max;
      lemma12 = k.cost;
      path = k.path;
      words = tree-wordiest (acts c) budget openings s w;
      depth = tree-height (acts c) budget openings s w;
      steps = rw (← eq) at f;
    })

pub bound-exact : BoundExact
unfolding bound
bound-exact c budget s q a = exact c opening_limit budget s q a

-- a run that the bounded start allows
pub run-within-bound : RunWithinBound
unfolding bound run
run-within-bound c budget t q a s e answers =
    let r = after c budget (begin s answers) in
    let safe = interruptible c opening_limit budget t q a s e answers budget in
    let (f, fits) = accepted-finite (acts c) budget opening_limit t q a in
    let stopped = safe.stops fits in (
      record { cycles = r.cycles; words = r.words; depth = r.depth; steps = r.steps; path = [] },
      stopped-verdict budget r stopped,
      record { cycles = omega (arith, safe.cycles); words = omega (arith, safe.words); depth = safe.depth; steps = safe.steps },
    )

-- the rest, of the bound itself
pub steps-listed : StepsListed
unfolding bound whole report
steps-listed c budget s q a =
    let (w, le, e) = complete-of c opening_limit budget s q a in
    steps-size (whole c opening_limit budget s) ∙ ap (λ r. r.steps) e

pub one-maximum : OneMaximum
one-maximum c s = (λ k l a b. cost-unique (acts c) a b, λ xs ys a b. run-unique (acts c) a b)

pub accepted-where : AcceptedWhere
unfolding bound
accepted-where c budget s = (
  λ (q, a). let (f, fits) = accepted-finite (acts c) budget opening_limit s q a in (q.steps, f, fits),
  λ (n, f, fits). let (q, a, sized) = finite-accepted (acts c) f budget fits in (q, a),
)

pub refused-where : RefusedWhere
unfolding bound
refused-where c budget s r = (λ a. refused-listed (acts c) opening_limit budget s r a, λ l. listed-refused (acts c) l)

pub fuel-irrelevant : FuelIrrelevant
unfolding bound explore
fuel-irrelevant c budget fuel s le = verdict-fuel (acts c) budget fuel opening_limit s le
