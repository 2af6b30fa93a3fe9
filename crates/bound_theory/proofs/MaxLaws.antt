-- A complete tree's cycles are the maximum cost, and its path the decisions of the maximum trace (Definitions 5 and 11); each of the two
-- maxima is the only one. Assumes nothing.
use mathlib.Core.Path.{◌≡◌, refl, sym, ap}
use mathlib.Core.Bool.{Bool, true, false}
use mathlib.Core.List.{List, [], ◌∷◌}
use Prim.Native.Nat.{ℕ, zero, suc, ◌+◌, max, ◌≤◌, ◌<◌}
use native.Mathlib.Omega.{arith}
use lib.Dec.{leb}
use borrow.Author.Tests.{leb-true, leb-false}
use Rattle.cells.specs.Try.{Try, stuck, done}
use Rattle.machine.specs.Machine.{State, Price, Next, stops, goes, opens, with_extra}
use Rattle.bound_theory.specs.Tree.{Tree, fork, expand, tree, cycles, N, T, worse, path}
use Rattle.bound_theory.specs.Traces.{Move, move, cost, decisions, CostMax, RunMax}
use Rattle.bound_theory.proofs.TreeLaws.{Complete}

-- the taken way of an unknown branch costs some extra more than the other
abbrev pub OpensWithExtra : (State → Try Next) → Type 0
OpensWithExtra act = (s t u : State) (p q : Price) → act s ≡ done (opens p t q u) → (x : ℕ) × (q ≡ with_extra x p)

-- there is one such extra
same-extra : (x x' : ℕ) (p p' : Price) → p ≡ p' → with_extra x p ≡ with_extra x' p' → x ≡ x'
unfolding with_extra
same-extra x x' p p' e f = let h = ap (λ (r : Price). r.cycles) e in let k = ap (λ (r : Price). r.cycles) f in omega arith

module _ (act : State → Try Next) where
  pub cost-unique : {s : State} {k l : ℕ} → CostMax act s k → CostMax act s l → k ≡ l
  cost-unique (CostMax.stop e) (CostMax.stop e') = cc
  cost-unique (CostMax.stop e) (CostMax.next e' d) = cc
  cost-unique (CostMax.stop e) (CostMax.fork x' e' d d') = cc
  cost-unique (CostMax.next e c) (CostMax.stop e') = cc
  cost-unique (CostMax.next {t} e c) (CostMax.next {t = t'} e' d) =
      let h : t' ≡ t = cc in
      let k = cost-unique c (rw h at d) in
      cc
  cost-unique (CostMax.next e c) (CostMax.fork x' e' d d') = cc
  cost-unique (CostMax.fork x e c c') (CostMax.stop e') = cc
  cost-unique (CostMax.fork x e c c') (CostMax.next e' d) = cc
  cost-unique (CostMax.fork {t} {u} {c = p} x e c c') (CostMax.fork {t = t'} {u = u'} {c = p'} x' e' d d') =
      let h : t' ≡ t = cc in
      let g : u' ≡ u = cc in
      let a : p ≡ p' = cc in
      let b : with_extra x p ≡ with_extra x' p' = cc in
      let y = same-extra x x' p p' a b in
      let k = cost-unique c (rw h at d) in
      let l = cost-unique c' (rw g at d') in
      cc

  -- two maximum traces of each way, of which the one comparison holds and the other: not both
  differ : {A : Type 0} {ms ns ms' ns' : List Move} {x x' : ℕ} → ms ≡ ms' → ns ≡ ns' → x ≡ x' → cost ms ≤ x + cost ns → x' + cost ns' < cost ms' → A
  differ e f y le lt = let h = ap cost e in let k = ap cost f in absurd (omega arith)

  pub run-unique : {s : State} {xs ys : List Move} → RunMax act s xs → RunMax act s ys → xs ≡ ys
  run-unique (RunMax.stop e) (RunMax.stop e') = cc
  run-unique (RunMax.stop e) (RunMax.next e' d) = cc
  run-unique (RunMax.stop e) (RunMax.taken x' e' d d' h') = cc
  run-unique (RunMax.stop e) (RunMax.not_taken x' e' d d' h') = cc
  run-unique (RunMax.next e c) (RunMax.stop e') = cc
  run-unique (RunMax.next {t} e c) (RunMax.next {t = t'} e' d) =
      let h : t' ≡ t = cc in
      let k = run-unique c (rw h at d) in
      cc
  run-unique (RunMax.next e c) (RunMax.taken x' e' d d' h') = cc
  run-unique (RunMax.next e c) (RunMax.not_taken x' e' d d' h') = cc
  run-unique (RunMax.taken x e c c' h) (RunMax.stop e') = cc
  run-unique (RunMax.taken x e c c' h) (RunMax.next e' d) = cc
  run-unique (RunMax.taken {t} {u} {c = p} x e c c' h) (RunMax.taken {t = t'} {u = u'} {c = p'} x' e' d d' h') =
      let g : u' ≡ u = cc in
      let l = run-unique c' (rw g at d') in
      cc
  run-unique (RunMax.taken {t} {u} {c = p} x e c c' h) (RunMax.not_taken {t = t'} {u = u'} {c = p'} x' e' d d' h') =
      let g : t' ≡ t = cc in
      let k : u' ≡ u = cc in
      let a : p ≡ p' = cc in
      let b : with_extra x p ≡ with_extra x' p' = cc in
      differ (run-unique c (rw g at d)) (run-unique c' (rw k at d')) (same-extra x x' p p' a b) h h'
  run-unique (RunMax.not_taken x e c c' h) (RunMax.stop e') = cc
  run-unique (RunMax.not_taken x e c c' h) (RunMax.next e' d) = cc
  run-unique (RunMax.not_taken {t} {u} {c = p} x e c c' h) (RunMax.taken {t = t'} {u = u'} {c = p'} x' e' d d' h') =
      let g : t' ≡ t = cc in
      let k : u' ≡ u = cc in
      let a : p' ≡ p = cc in
      let b : with_extra x' p' ≡ with_extra x p = cc in
      differ (sym (run-unique c (rw g at d))) (sym (run-unique c' (rw k at d'))) (same-extra x' x p' p a b) h' h
  run-unique (RunMax.not_taken {t} {u} {c = p} x e c c' h) (RunMax.not_taken {t = t'} {u = u'} {c = p'} x' e' d d' h') =
      let g : t' ≡ t = cc in
      let l = run-unique c (rw g at d) in
      cc

module _ (act : State → Try Next) (extra : OpensWithExtra act) where
  -- a tree's maximum cost and maximum trace
  pub record Worst (s : State) (t : Tree) : Type 0 where
    pub most : CostMax act s (cycles t)
    pub trace : List Move
    pub max : RunMax act s trace
    pub cost : cost trace ≡ cycles t
    pub path : decisions trace ≡ path t

  -- c + max(k, x + k') is the larger of c + k and c + x + k'
  fork-most : {s t u : State} {p : Price} {k l : ℕ} (x n : ℕ) → n ≡ p.cycles + x → act s ≡ done (opens p t (with_extra x p) u) →
      CostMax act t k → CostMax act u l → CostMax act s (max (p.cycles + k) (n + l))
  fork-most {p} {k} {l} x n h e c d =
      let g : p.cycles + max k (x + l) ≡ max (p.cycles + k) (n + l) = omega arith in
      rw g at (CostMax.fork x e c d)

  fork-worst : (s t u : State) (p q : Price) (x y : Tree) → act s ≡ done (opens p t q u) → Worst t x → Worst u y → Worst s (fork s p x q y)
  unfolding cycles path cost decisions worse with_extra
  fork-worst s t u p q x y e a b = go (leb (p.cycles + cycles x) (q.cycles + cycles y)) refl
    where
      more : ℕ
      more = (extra s t u p q e).0

      dearer : q ≡ with_extra more p
      dearer = (extra s t u p q e).1

      opened : act s ≡ done (opens p t (with_extra more p) u)
      opened = rw dearer at e

      sum : q.cycles ≡ p.cycles + more
      sum = ap (λ (r : Price). r.cycles) dearer

      go : (d : Bool) → leb (p.cycles + cycles x) (q.cycles + cycles y) ≡ d → Worst s (fork s p x q y)
      go true h =
          let le = leb-true (p.cycles + cycles x) (q.cycles + cycles y) h in
          record {
            most = fork-most more q.cycles sum opened a.most b.most;
            trace = move s (with_extra more p) (T ∷ []) ∷ b.trace;
            max = RunMax.taken more opened a.max b.max (omega (arith, sum));
            cost = omega (arith, sum);
            path = rw h (ap (λ l. T ∷ l) b.path);
          }
      go false h =
          let lt = leb-false (p.cycles + cycles x) (q.cycles + cycles y) h in
          record {
            most = fork-most more q.cycles sum opened a.most b.most;
            trace = move s p (N ∷ []) ∷ a.trace;
            max = RunMax.not_taken more opened a.max b.max (omega (arith, sum));
            cost = omega arith;
            path = rw h (ap (λ l. N ∷ l) a.path);
          }

  expand-worst : (below : ℕ → State → Tree) (ih : (o : ℕ) (s : State) → Complete (below o s) → Worst s (below o s))
      (o : ℕ) (s : State) (m : Try Next) → act s ≡ m → Complete (expand below o s m) → Worst s (expand below o s m)
  unfolding expand cycles path cost decisions
  expand-worst below ih o s stuck e w = absurd w
  expand-worst below ih o s (done (stops p)) e w =
      record { most = CostMax.stop e; trace = move s p [] ∷ []; max = RunMax.stop e; cost = omega arith; path = refl }
  expand-worst below ih o s (done (goes p t)) e w =
      let k = ih o t w in
      record { most = CostMax.next e k.most; trace = move s p [] ∷ k.trace; max = RunMax.next e k.max; cost = omega arith; path = k.path }
  expand-worst below ih zero s (done (opens p t q u)) e w = absurd w
  expand-worst below ih (suc o) s (done (opens p t q u)) e w = fork-worst s t u p q (below o t) (below o u) e (ih o t w.0) (ih o u w.1)

  pub tree-worst : (f o : ℕ) (s : State) → Complete (tree act f o s) → Worst s (tree act f o s)
  unfolding tree
  tree-worst zero o s w = absurd w
  tree-worst (suc f) o s w = expand-worst (tree act f) (tree-worst f) o s (act s) refl w
