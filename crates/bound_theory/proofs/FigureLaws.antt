-- How large the figures of a report can be, by the largest price, the steps, the openings and the stack's limit. Assumes nothing.
use mathlib.Core.Path.{◌≡◌, refl}
use mathlib.Core.Bool.{Bool, true, false}
use mathlib.Core.List.{List, []}
use Prim.Native.Nat.{ℕ, zero, suc, ◌+◌, ◌*◌, max, ◌≤◌}
use native.Mathlib.Omega.{arith}
use lib.Dec.{leb}
use lib.IntN.{ℤ}
use lib.ListN.{length}
use Rattle.cells.specs.Try.{Try, stuck, done}
use Rattle.cells.specs.declared.Cell.{Cell}
use Rattle.cells.specs.Cells.{unknown}
use Rattle.machine.specs.Machine.{State, Instruction, Code, fetch, Next, stops, goes, opens, stack_limit, height, step}
use Rattle.machine.proofs.PriceLaws.{AtMost, Both, Priced, is_stuck, stops_at, goes_at, opens_at, step-price}
use Rattle.machine.proofs.LeadLaws.{Leads, goes_to, opens-to}
use Rattle.machine.proofs.HeightLaws.{Low, step-low}
use Rattle.bound_theory.specs.Tree.{Tree, expand, tree, cycles, words, depth, size, path, worse, Decision, Report, report, accepted, opening_limit, explore, bound, verdict}
use Rattle.bound_theory.specs.Run.{Run, begin, answer, moved, leads, once, after, judge_run, run}
use Rattle.bound_theory.proofs.TreeLaws.{accepted-complete}

module _ (C W : ℕ) where
  pub record Figures (t : Tree) : Type 0 where
    pub cycles : cycles t ≤ C * size t
    pub words : words t ≤ W * size t

  module _ (act : State → Try Next) (cheap : (s : State) → Priced (AtMost C W) (act s)) where
    expand-figures : (below : ℕ → State → Tree) (ih : (o : ℕ) (s : State) → Figures (below o s))
        (o : ℕ) (s : State) {m : Try Next} → Priced (AtMost C W) m → Figures (expand below o s m)
    unfolding expand cycles words size
    expand-figures below ih o s is_stuck = omega arith
    expand-figures below ih o s (stops_at h) = omega (arith, h)
    expand-figures below ih o s (goes_at {t} h) = omega (arith, h, ih o t)
    expand-figures below ih zero s (opens_at x e h k) = omega arith
    expand-figures below ih (suc o) s (opens_at {t} {u} x e h k) = omega (arith, h, k, ih o t, ih o u)

    pub tree-figures : (f o : ℕ) (s : State) → Figures (tree act f o s)
    unfolding tree cycles words size
    tree-figures zero o s = omega arith
    tree-figures (suc f) o s = expand-figures (tree act f) (tree-figures f) o s (cheap s)

-- a path has at most as many decisions as openings

worse-length : (b : Bool) (ns ts : List Decision) (o : ℕ) → length ns ≤ o → length ts ≤ o → length (worse b ns ts) ≤ suc o
unfolding worse
worse-length true ns ts o h k = omega arith
worse-length false ns ts o h k = omega arith

expand-path : (below : ℕ → State → Tree) (ih : (o : ℕ) (s : State) → length (path (below o s)) ≤ o) (o : ℕ) (s : State) (m : Try Next) → length (path (expand below o s m)) ≤ o
unfolding expand path
expand-path below ih o s stuck = omega arith
expand-path below ih o s (done (stops p)) = omega arith
expand-path below ih o s (done (goes p t)) = ih o t
expand-path below ih zero s (done (opens p t q u)) = omega arith
expand-path below ih (suc o) s (done (opens p t q u)) =
    worse-length (leb (p.cycles + cycles (below o t)) (q.cycles + cycles (below o u))) (path (below o t)) (path (below o u)) o (ih o t) (ih o u)

tree-path : (act : State → Try Next) (f o : ℕ) (s : State) → length (path (tree act f o s)) ≤ o
unfolding tree path
tree-path act zero o s = omega arith
tree-path act (suc f) o s = expand-path (tree act f) (tree-path act f) o s (act s)

-- no state is higher than the stack's limit

module _ (c : Code) where
  expand-low : (below : ℕ → State → Tree) (ih : (o : ℕ) (s : State) → Low s → depth (below o s) ≤ stack_limit)
      (o : ℕ) (s : State) → Low s → (m : Try Next) → ((n : Next) → m ≡ done n → Leads Low n) → depth (expand below o s m) ≤ stack_limit
  unfolding expand depth
  expand-low below ih o s h stuck k = h.low
  expand-low below ih o s h (done (stops p)) k = h.low
  expand-low below ih o s h (done (goes p t)) k = go (k (goes p t) refl)
    where
      go : Leads Low (goes p t) → max (height s) (depth (below o t)) ≤ stack_limit
      go (goes_to l) = omega (arith, h.low, ih o t l)
  expand-low below ih zero s h (done (opens p t q u)) k = h.low
  expand-low below ih (suc o) s h (done (opens p t q u)) k = go (k (opens p t q u) refl)
    where
      go : Leads Low (opens p t q u) → max (height s) (max (depth (below o t)) (depth (below o u))) ≤ stack_limit
      go (opens-to l m) = omega (arith, h.low, ih o t l, ih o u m)

  tree-low : (r : Cell) (f o : ℕ) (s : State) → Low s → depth (tree (step c r) f o s) ≤ stack_limit
  unfolding tree depth
  tree-low r zero o s h = h.low
  tree-low r (suc f) o s h = expand-low (tree (step c r) f) (tree-low r f) o s h (step c r s) (λ n e. step-low c r s n e h)

-- the figures of an accepted report, of code whose prices are at most C cycles and W words, from a start within the stack's limit
pub record Bounded (C W budget : ℕ) (q : Report) : Type 0 where
  pub cycles : q.cycles ≤ C * q.steps
  pub words : q.words ≤ W * q.steps
  pub depth : q.depth ≤ stack_limit
  pub steps : q.steps ≤ budget
  pub path : length q.path ≤ opening_limit

module _ (C W : ℕ) (c : Code) (cheap : (a : ℕ) (i : Instruction) → fetch c a ≡ done i → Both (AtMost C W) i.price i.extra) where
  pub bound-bounded : (budget : ℕ) (s : State) → Low s → (q : Report) → bound c budget s ≡ accepted q → Bounded C W budget q
  unfolding bound explore verdict report
  bound-bounded budget s h q a =
      let t = tree (step c unknown) budget opening_limit s in
      let (w, le, e) = accepted-complete t budget (report t) q a in
      let k = tree-figures C W (step c unknown) (λ s. step-price (AtMost C W) c cheap unknown s) budget opening_limit s in
      rw (← e) (record {
        cycles = k.cycles;
        words = k.words;
        depth = tree-low c unknown budget opening_limit s h;
        steps = le;
        path = tree-path (step c unknown) budget opening_limit s;
      })

  -- a run's figures, after n steps
  record Running (n : ℕ) (r : Run) : Type 0 where
    low : Low r.state
    cycles : r.cycles ≤ C * r.steps
    words : r.words ≤ W * r.steps
    depth : r.depth ≤ stack_limit
    steps : r.steps ≤ n

  longer : (n : ℕ) (r : Run) → Running n r → Running (suc n) r
  longer n r k = record { low = k.low; cycles = k.cycles; words = k.words; depth = k.depth; steps = omega (arith, k.steps) }

  moved-running : (n : ℕ) (r : Run) (rest : List ℤ) (b : Bool) {m : Try Next} → Priced (AtMost C W) m → ((x : Next) → m ≡ done x → Leads Low x) → Running n r → Running (suc n) (moved r rest b m)
  unfolding moved
  moved-running n r rest true p l k = longer n r k
  moved-running n r rest false is_stuck l k = longer n r k
  moved-running n r rest false (stops_at h) l k =
      record { low = k.low; cycles = omega (arith, h, k.cycles); words = omega (arith, h, k.words); depth = k.depth; steps = omega (arith, k.steps) }
  moved-running n r rest false (goes_at {p} {t} h) l k = go (l (goes p t) refl)
    where
      go : Leads Low (goes p t) → Running (suc n) (moved r rest false (done (goes p t)))
      go (goes_to g) =
          record { low = g; cycles = omega (arith, h, k.cycles); words = omega (arith, h, k.words); depth = omega (arith, g.low, k.depth); steps = omega (arith, k.steps) }
  moved-running n r rest false (opens_at x e h g) l k = longer n r k

  after-running : (n : ℕ) (r : Run) → Running 0 r → Running n (after c n r)
  unfolding after once leads
  after-running zero r k = k
  after-running (suc n) r k =
      let s = after c n r in
      let i = after-running n r k in
      moved-running n s _ s.stopped (step-price (AtMost C W) c cheap (answer s.answers) s.state) (λ x e. step-low c (answer s.answers) s.state x e i.low) i

  judged : (budget : ℕ) (r : Run) (b : Bool) → r.stopped ≡ b → Running budget r → (q : Report) → judge_run budget r ≡ accepted q → Bounded C W budget q
  unfolding judge_run
  judged budget r true e k q a =
      let h : record { cycles = r.cycles; words = r.words; depth = r.depth; steps = r.steps; path = [] } ≡ q = cc in
      rw (← h) (record { cycles = k.cycles; words = k.words; depth = k.depth; steps = k.steps; path = omega arith })
  judged budget r false e k q a = let z : ◌≡◌ {A = ℕ} 0 1 = cc in absurd (omega arith)

  pub run-bounded : (budget : ℕ) (s : State) → Low s → (answers : List ℤ) (q : Report) → run c budget s answers ≡ accepted q → Bounded C W budget q
  unfolding run begin
  run-bounded budget s h answers q a =
      let r = after c budget (begin s answers) in
      judged budget r r.stopped refl (after-running budget (begin s answers) (record { low = h; cycles = omega arith; words = omega arith; depth = h.low; steps = omega arith })) q a
