-- Where any bound that goes by a step's ways accepts, no figure of the tree is greater, and no step of the tree is stuck. Assumes nothing.
use mathlib.Core.Path.{◌≡◌, refl, subst}
use mathlib.Core.Logic.{◌⊎◌, inl, inr}
use mathlib.Core.List.{List}
use Prim.Native.Nat.{ℕ, zero, suc, ◌≤◌}
use native.Mathlib.Omega.{arith}
use Rattle.refusals.specs.Refusals.{number}
use Rattle.refusals.specs.declared.Refusal.{Refusal}
use Rattle.cells.specs.Try.{Try, stuck, done}
use Rattle.cells.specs.Cells.{unknown}
use Rattle.cells.specs.Order.{same}
use Rattle.machine.specs.Machine.{State, Price, Next, stops, goes, opens, Code, height, with_extra, step}
use Rattle.machine.proofs.PriceLaws.{opening-price}
use Rattle.machine.proofs.StateLaws.{cellwise-refl}
use Rattle.bound_theory.specs.Tree.{Tree, expand, tree, cycles, words, depth, Report, report, Verdict, accepted, refused, explore, verdict, opening_limit, bound}
use Rattle.bound_theory.specs.Traces.{Move, cost, word_sum, Transition, goes_on, Trace, Path, CostMax, Comes, Listed, is_stuck, opens_too_many, is_spent}
use Rattle.bound_theory.proofs.TreeLaws.{Complete, accepted-complete}
use Rattle.bound_theory.proofs.PromiseLaws.{refused-where}
use Rattle.bound_theory.proofs.RunLaws.{Leaves, Ways, stopping, going, opening, Stepwise}
use Rattle.merge_theory.specs.Promises.{NotSmaller, CoversPaths}

module _ (c : Code) (M : State → Verdict) (by-steps : Stepwise c M) where
  ways : (s : State) (q : Report) → M s ≡ accepted q → Ways c M q (step c unknown s)
  ways s q a = by-steps.ways s q (cellwise-refl (λ x. same) s) a

  -- no figure is greater

  record Covers (q : Report) (t : Tree) : Type 0 where
    cycles : cycles t ≤ q.cycles
    words : words t ≤ q.words
    depth : depth t ≤ q.depth

  expand-covered : (below : ℕ → State → Tree) → ((o : ℕ) (s : State) (q : Report) → M s ≡ accepted q → Complete (below o s) → Covers q (below o s)) →
      (o : ℕ) (s : State) (q : Report) {m : Try Next} → Ways c M q m → height s ≤ q.depth → Complete (expand below o s m) → Covers q (expand below o s m)
  unfolding expand cycles words depth
  expand-covered below ih o s q (stopping p w) h v = omega arith
  expand-covered below ih o s q (going {t} l) h v = let k = ih o t l.fresh l.accepts v in omega (arith, k, l)
  expand-covered below ih zero s q (opening l l') h v = absurd v
  expand-covered below ih (suc o) s q (opening {t} {u} l l') h v =
      let k = ih o t l.fresh l.accepts v.0 in
      let k' = ih o u l'.fresh l'.accepts v.1 in
      omega (arith, k, l, k', l')

  tree-covered : (f o : ℕ) (s : State) (q : Report) → M s ≡ accepted q → Complete (tree (step c unknown) f o s) → Covers q (tree (step c unknown) f o s)
  unfolding tree
  tree-covered zero o s q a v = absurd v
  tree-covered (suc f) o s q a v = expand-covered (tree (step c unknown) f) (tree-covered f) o s q (ways s q a) (by-steps.root s q a).0 v

  pub not-smaller : (budget : ℕ) (s : State) (r q : Report) → bound c budget s ≡ accepted r → M s ≡ accepted q → NotSmaller r q
  unfolding bound explore verdict report
  not-smaller budget s r q a b =
      let t = tree (step c unknown) budget opening_limit s in
      let (w, le, eq) = accepted-complete t budget (report t) r a in
      let k = tree-covered budget opening_limit s q b w in
      rw (← eq) (omega (arith, k))

  -- no step is stuck

  abbrev Accepts : State → Type 0
  Accepts s = (q : Report) × (M s ≡ accepted q)

  same_way : {q : Report} {p p' : Price} {t t' : State} → p ≡ p' → t ≡ t' → Leaves c M q p t → Leaves c M q p' t'
  same_way {q} {p' = p'} {t = t} e f l = subst (Leaves c M q p') f (subst (λ x. Leaves c M q x t) e l)

  last_step : {q : Report} {m : Try Next} {p : Price} → Ways c M q m → m ≡ done (stops p) → (p.cycles ≤ q.cycles) × (p.words ≤ q.words)
  last_step {p} (stopping {p = p'} x y) e = let h : p' ≡ p = cc in rw (← h) (x, y)
  last_step (going l) e = let z : ◌≡◌ {A = ℕ} 0 1 = cc in absurd (omega arith)
  last_step (opening l l') e = let z : ◌≡◌ {A = ℕ} 0 1 = cc in absurd (omega arith)

  one_way : {q : Report} {m : Try Next} {p : Price} {t : State} → Ways c M q m → m ≡ done (goes p t) → Leaves c M q p t
  one_way (stopping w v) e = let z : ◌≡◌ {A = ℕ} 0 1 = cc in absurd (omega arith)
  one_way {p} {t} (going {p = p'} {t = t'} l) e = let h : p' ≡ p = cc in let k : t' ≡ t = cc in same_way h k l
  one_way (opening l l') e = let z : ◌≡◌ {A = ℕ} 0 1 = cc in absurd (omega arith)

  two_ways : {q : Report} {m : Try Next} {p p' : Price} {t u : State} → Ways c M q m → m ≡ done (opens p t p' u) → Leaves c M q p t × Leaves c M q p' u
  two_ways (stopping w v) e = let z : ◌≡◌ {A = ℕ} 0 1 = cc in absurd (omega arith)
  two_ways (going l) e = let z : ◌≡◌ {A = ℕ} 0 1 = cc in absurd (omega arith)
  two_ways {p = p} {p' = p'} {t = t} {u = u} (opening {p = r} {p' = r'} {t = v} {u = w} l l') e =
      let h : r ≡ p = cc in
      let h' : r' ≡ p' = cc in
      let k : v ≡ t = cc in
      let k' : w ≡ u = cc in
      (same_way h k l, same_way h' k' l')

  accepts : {q : Report} {p : Price} {t : State} → Leaves c M q p t → Accepts t
  accepts l = (l.fresh, l.accepts)

  not_stuck : {q : Report} {m : Try Next} → Ways c M q m → m ≡ stuck → ⊥
  not_stuck (stopping w v) e = let z : ◌≡◌ {A = ℕ} 0 1 = cc in omega arith
  not_stuck (going l) e = let z : ◌≡◌ {A = ℕ} 0 1 = cc in omega arith
  not_stuck (opening l l') e = let z : ◌≡◌ {A = ℕ} 0 1 = cc in omega arith

  -- each state that the depth-first order comes to is accepted
  comes-accepted : {o k o' : ℕ} {s t : State} → Comes (step c unknown) o s k o' t → Accepts s → Accepts t
  comes-accepted Comes.here a = a
  comes-accepted (Comes.next {s} e x) (q, a) = comes-accepted x (accepts (one_way (ways s q a) e))
  comes-accepted (Comes.not_taken {s} e x) (q, a) = comes-accepted x (accepts (two_ways (ways s q a) e).0)
  comes-accepted (Comes.taken {s} e f x) (q, a) = comes-accepted x (accepts (two_ways (ways s q a) e).1)

  listed : {budget : ℕ} {s : State} {r : Refusal} → Accepts s → Listed (step c unknown) opening_limit budget s r → (number r ≡ 8) ⊎ (number r ≡ 9)
  unfolding number
  listed a (is_stuck {t} x h e) = let (q, b) = comes-accepted x a in absurd (not_stuck (ways t q b) e)
  listed a (opens_too_many x h e) = inl refl
  listed a (is_spent x) = inr refl

  pub refused-for-size : (budget : ℕ) (s : State) (q : Report) (r : Refusal) → M s ≡ accepted q → bound c budget s ≡ refused r → (number r ≡ 8) ⊎ (number r ≡ 9)
  refused-for-size budget s q r a e = listed (q, a) ((refused-where c budget s r).0 e)

  -- ---- Definition 5, and the paths

  cost-covered : {s : State} {k : ℕ} → CostMax (step c unknown) s k → (q : Report) → M s ≡ accepted q → k ≤ q.cycles
  unfolding with_extra
  cost-covered (CostMax.stop {s} e) q a = (last_step (ways s q a) e).0
  cost-covered (CostMax.next {s} e d) q a =
      let l = one_way (ways s q a) e in
      omega (arith, l, cost-covered d l.fresh l.accepts)
  cost-covered (CostMax.fork {s} x e d d') q a =
      let (l, l') = two_ways (ways s q a) e in
      omega (arith, l, l', cost-covered d l.fresh l.accepts, cost-covered d' l'.fresh l'.accepts)

  move-covered : {s t : State} {m : Move} → Transition (step c unknown) s m t → (q : Report) → M s ≡ accepted q → Leaves c M q m.price t
  move-covered (goes_on {s} e) q a = one_way (ways s q a) e
  move-covered (Transition.not_taken {s} e) q a = (two_ways (ways s q a) e).0
  move-covered (Transition.taken {s} e) q a = (two_ways (ways s q a) e).1

  path-covered : {s : State} {ms : List Move} → Path (step c unknown) s ms → (q : Report) → M s ≡ accepted q → (cost ms ≤ q.cycles) × (word_sum ms ≤ q.words)
  unfolding cost word_sum
  path-covered (Path.stop {s} e) q a = let l = last_step (ways s q a) e in omega (arith, l)
  path-covered (Path.step w p) q a =
      let l = move-covered w q a in
      let k = path-covered p l.fresh l.accepts in
      omega (arith, l, k)

  trace-covered : {s t : State} {ms : List Move} → Trace (step c unknown) s ms t → (q : Report) → M s ≡ accepted q → height t ≤ q.depth
  trace-covered (Trace.here {s}) q a = (by-steps.root s q a).0
  trace-covered (Trace.step w p) q a =
      let l = move-covered w q a in
      let k = trace-covered p l.fresh l.accepts in
      omega (arith, l, k)

  -- by what is left of STEPS, which each step lowers
  has-maximum : (n : ℕ) (s : State) (q : Report) → q.steps ≤ n → M s ≡ accepted q → (k : ℕ) × CostMax (step c unknown) s k
  has-maximum zero s q le a = absurd (omega (arith, by-steps.root s q a))
  has-maximum (suc n) s q le a = go (ways s q a) refl (λ p t l. has-maximum n t l.fresh (omega (arith, l)) l.accepts)
    where
      go : {m : Try Next} → Ways c M q m → step c unknown s ≡ m → ((p : Price) (t : State) → Leaves c M q p t → (k : ℕ) × CostMax (step c unknown) t k) → (k : ℕ) × CostMax (step c unknown) s k
      go (stopping x y) e ih = (_, CostMax.stop e)
      go (going {p} {t} l) e ih = let (k, d) = ih p t l in (_, CostMax.next e d)
      go (opening {p} {p'} {t} {u} l l') e ih =
          let (x, f) = opening-price c unknown s e in
          let (k, d) = ih p t l in
          let (k', d') = ih p' u l' in
          (_, CostMax.fork x (rw f at e) d d')

  pub covers-paths : (s : State) (q : Report) → M s ≡ accepted q → CoversPaths c s q
  covers-paths s q a =
      let (k, d) = has-maximum q.steps s q (omega arith) a in record {
        maximum = k;
        costs = d;
        cycles = λ k e. cost-covered e q a;
        paths = λ ms p. (path-covered p q a).0;
        words = λ ms p. (path-covered p q a).1;
        depth = λ ms t p. trace-covered p q a;
      }
