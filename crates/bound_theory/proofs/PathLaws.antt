-- The largest sums over the paths of a complete tree, for any figure of a price, and the largest height over the states reached.
-- Assumes nothing.
use mathlib.Core.Path.{◌≡◌, refl, ap}
use mathlib.Core.List.{List, [], ◌∷◌}
use Prim.Native.Nat.{ℕ, zero, suc, ◌+◌, max, ◌≤◌}
use mathlib.Core.Bool.{Bool, true, false}
use native.Mathlib.Omega.{arith}
use lib.Dec.{leb}
use borrow.Author.Tests.{leb-true, leb-false}
use Rattle.cells.specs.Try.{Try, stuck, done}
use Rattle.machine.specs.Machine.{State, Price, Next, stops, goes, opens, height}
use Rattle.bound_theory.specs.Tree.{Tree, unmade, stop, next, fork, expand, tree, cycles, words, depth}
use Rattle.bound_theory.specs.Traces.{Move, move, cost, word_sum, Transition, goes_on, not_taken, taken, Trace, Path}
use Rattle.bound_theory.specs.Promises.{LargestOver, LargestHeight}
use Rattle.bound_theory.proofs.TreeLaws.{Complete}

-- the sum of a figure g of the prices along a path, and the largest in a tree
module _ (g : Price → ℕ) where
  unfoldable pub total : List Move → ℕ
  total [] = 0
  total (m ∷ ms) = g m.price + total ms

  unfoldable pub largest : Tree → ℕ
  largest (unmade r s) = 0
  largest (stop s p) = g p
  largest (next s p t) = g p + largest t
  largest (fork s p t q u) = max (g p + largest t) (g q + largest u)

module _ (act : State → Try Next) (g : Price → ℕ) where
  -- the paths from s, by what its step leads to
  stops-total : {s : State} {p : Price} {ms : List Move} → act s ≡ done (stops p) → Path act s ms → total g ms ≡ g p
  unfolding total
  stops-total {p} e (Path.stop {p = p'} e') = let h : p' ≡ p = cc in let k = ap g h in omega arith
  stops-total e (Path.step (goes_on e') r) = cc
  stops-total e (Path.step (not_taken e') r) = cc
  stops-total e (Path.step (taken e') r) = cc

  goes-total : {s t : State} {p : Price} {ms : List Move} (k : ℕ) → act s ≡ done (goes p t) → ((ns : List Move) → Path act t ns → total g ns ≤ k) →
      Path act s ms → total g ms ≤ g p + k
  unfolding total
  goes-total k e h (Path.stop e') = let z : ◌≡◌ {A = ℕ} 0 1 = cc in absurd (omega arith)
  goes-total {t} {p} k e h (Path.step {ms = ns} (goes_on {t = t'} {p = p'} e') r) =
      let a : t' ≡ t = cc in
      let b : p' ≡ p = cc in
      let l = h ns (rw a at r) in
      omega (arith, ap g b)
  goes-total k e h (Path.step (not_taken e') r) = let z : ◌≡◌ {A = ℕ} 0 1 = cc in absurd (omega arith)
  goes-total k e h (Path.step (taken e') r) = let z : ◌≡◌ {A = ℕ} 0 1 = cc in absurd (omega arith)

  opens-total : {s t u : State} {p q : Price} {ms : List Move} (k l : ℕ) → act s ≡ done (opens p t q u) →
      ((ns : List Move) → Path act t ns → total g ns ≤ k) → ((ns : List Move) → Path act u ns → total g ns ≤ l) →
      Path act s ms → total g ms ≤ max (g p + k) (g q + l)
  unfolding total
  opens-total k l e h i (Path.stop e') = let z : ◌≡◌ {A = ℕ} 0 1 = cc in absurd (omega arith)
  opens-total k l e h i (Path.step (goes_on e') r) = let z : ◌≡◌ {A = ℕ} 0 1 = cc in absurd (omega arith)
  opens-total {t} {p} k l e h i (Path.step {ms = ns} (not_taken {t = t'} {p = p'} e') r) =
      let a : t' ≡ t = cc in
      let b : p' ≡ p = cc in
      let j = h ns (rw a at r) in
      omega (arith, ap g b)
  opens-total {u} {q} k l e h i (Path.step {ms = ns} (taken {u = u'} {q = q'} e') r) =
      let a : u' ≡ u = cc in
      let b : q' ≡ q = cc in
      let j = i ns (rw a at r) in
      omega (arith, ap g b)

  fork-largest : (s t u : State) (p q : Price) (x y : Tree) → act s ≡ done (opens p t q u) →
      LargestOver (Path act t) (total g) (largest g x) → LargestOver (Path act u) (total g) (largest g y) → LargestOver (Path act s) (total g) (largest g (fork s p x q y))
  unfolding total largest
  fork-largest s t u p q x y e a b = go (leb (g p + largest g x) (g q + largest g y)) refl
    where
      most : (ms : List Move) → Path act s ms → total g ms ≤ max (g p + largest g x) (g q + largest g y)
      most ms r = opens-total (largest g x) (largest g y) e a.most b.most r

      go : (d : Bool) → leb (g p + largest g x) (g q + largest g y) ≡ d → LargestOver (Path act s) (total g) (max (g p + largest g x) (g q + largest g y))
      go true h =
          let le = leb-true (g p + largest g x) (g q + largest g y) h in
          record { witness = _ ∷ b.witness; path = Path.step (taken e) b.path; attains = omega (arith, b.attains); most = most }
      go false h =
          let lt = leb-false (g p + largest g x) (g q + largest g y) h in
          record { witness = _ ∷ a.witness; path = Path.step (not_taken e) a.path; attains = omega (arith, a.attains); most = most }

  expand-largest : (below : ℕ → State → Tree) (ih : (o : ℕ) (s : State) → Complete (below o s) → LargestOver (Path act s) (total g) (largest g (below o s)))
      (o : ℕ) (s : State) (m : Try Next) → act s ≡ m → Complete (expand below o s m) → LargestOver (Path act s) (total g) (largest g (expand below o s m))
  unfolding expand total largest
  expand-largest below ih o s stuck e w = absurd w
  expand-largest below ih o s (done (stops p)) e w =
      record { witness = move s p [] ∷ []; path = Path.stop e; attains = omega arith; most = λ ms r. let h = stops-total e r in omega arith }
  expand-largest below ih o s (done (goes p t)) e w =
      let k = ih o t w in
      record { witness = move s p [] ∷ k.witness; path = Path.step (goes_on e) k.path; attains = omega (arith, k.attains); most = λ ms r. goes-total (largest g (below o t)) e k.most r }
  expand-largest below ih zero s (done (opens p t q u)) e w = absurd w
  expand-largest below ih (suc o) s (done (opens p t q u)) e w = fork-largest s t u p q (below o t) (below o u) e (ih o t w.0) (ih o u w.1)

  pub tree-largest : (f o : ℕ) (s : State) → Complete (tree act f o s) → LargestOver (Path act s) (total g) (largest g (tree act f o s))
  unfolding tree
  tree-largest zero o s w = absurd w
  tree-largest (suc f) o s w = expand-largest (tree act f) (tree-largest f) o s (act s) refl w

-- the two figures of a price
abbrev cycles_of : Price → ℕ
cycles_of p = p.cycles

abbrev words_of : Price → ℕ
words_of p = p.words

cycles-largest : (t : Tree) → largest cycles_of t ≡ cycles t
unfolding largest cycles
cycles-largest (unmade r s) = refl
cycles-largest (stop s p) = refl
cycles-largest (next s p t) = let h = cycles-largest t in omega arith
cycles-largest (fork s p t q u) = let h = cycles-largest t in let k = cycles-largest u in omega arith

words-largest : (t : Tree) → largest words_of t ≡ words t
unfolding largest words
words-largest (unmade r s) = refl
words-largest (stop s p) = refl
words-largest (next s p t) = let h = words-largest t in omega arith
words-largest (fork s p t q u) = let h = words-largest t in let k = words-largest u in omega arith

cost-total : (ms : List Move) → total cycles_of ms ≡ cost ms
unfolding total cost
cost-total [] = refl
cost-total (m ∷ ms) = let h = cost-total ms in omega arith

word_total : (ms : List Move) → total words_of ms ≡ word_sum ms
unfolding total word_sum
word_total [] = refl
word_total (m ∷ ms) = let h = word_total ms in omega arith

-- the same figure, defined another way
same-largest : {P : List Move → Type 0} {f h : List Move → ℕ} {k l : ℕ} → ((ms : List Move) → f ms ≡ h ms) → k ≡ l → LargestOver P f k → LargestOver P h l
same-largest e d r = record {
  witness = r.witness;
  path = r.path;
  attains = omega (arith, e r.witness, r.attains, d);
  most = λ ms p. omega (arith, e ms, r.most ms p, d);
}

module _ (act : State → Try Next) where
  pub tree-costliest : (f o : ℕ) (s : State) → Complete (tree act f o s) → LargestOver (Path act s) cost (cycles (tree act f o s))
  tree-costliest f o s w = same-largest cost-total (cycles-largest (tree act f o s)) (tree-largest act cycles_of f o s w)

  pub tree-wordiest : (f o : ℕ) (s : State) → Complete (tree act f o s) → LargestOver (Path act s) word_sum (words (tree act f o s))
  tree-wordiest f o s w = same-largest word_total (words-largest (tree act f o s)) (tree-largest act words_of f o s w)

  -- the states reached from s, by what its step leads to
  stops-height : {s v : State} {p : Price} {ms : List Move} → act s ≡ done (stops p) → Trace act s ms v → height v ≡ height s
  stops-height e Trace.here = refl
  stops-height e (Trace.step (goes_on e') r) = cc
  stops-height e (Trace.step (not_taken e') r) = cc
  stops-height e (Trace.step (taken e') r) = cc

  goes-height : {s t v : State} {p : Price} {ms : List Move} (k : ℕ) → act s ≡ done (goes p t) → ((ns : List Move) (v : State) → Trace act t ns v → height v ≤ k) →
      Trace act s ms v → height v ≤ max (height s) k
  goes-height k e h Trace.here = omega arith
  goes-height {t} {v} k e h (Trace.step {ms = ns} (goes_on {t = t'} e') r) = let a : t' ≡ t = cc in let l = h ns v (rw a at r) in omega arith
  goes-height k e h (Trace.step (not_taken e') r) = let z : ◌≡◌ {A = ℕ} 0 1 = cc in absurd (omega arith)
  goes-height k e h (Trace.step (taken e') r) = let z : ◌≡◌ {A = ℕ} 0 1 = cc in absurd (omega arith)

  opens-height : {s t u v : State} {p q : Price} {ms : List Move} (k l : ℕ) → act s ≡ done (opens p t q u) →
      ((ns : List Move) (v : State) → Trace act t ns v → height v ≤ k) → ((ns : List Move) (v : State) → Trace act u ns v → height v ≤ l) →
      Trace act s ms v → height v ≤ max (height s) (max k l)
  opens-height k l e h i Trace.here = omega arith
  opens-height k l e h i (Trace.step (goes_on e') r) = let z : ◌≡◌ {A = ℕ} 0 1 = cc in absurd (omega arith)
  opens-height {t} {v} k l e h i (Trace.step {ms = ns} (not_taken {t = t'} e') r) = let a : t' ≡ t = cc in let j = h ns v (rw a at r) in omega arith
  opens-height {u} {v} k l e h i (Trace.step {ms = ns} (taken {u = u'} e') r) = let a : u' ≡ u = cc in let j = i ns v (rw a at r) in omega arith

  -- the larger of the root's height and of those below
  deeper : {s t : State} {m : Move} {k l : ℕ} → Transition act s m t → LargestHeight act t k → l ≡ max (height s) k →
      ((ms : List Move) (v : State) → Trace act s ms v → height v ≤ l) → LargestHeight act s l
  deeper {s} {t} {m} {k} {l} x a e most = go (leb (height s) k) refl
    where
      go : (d : Bool) → leb (height s) k ≡ d → LargestHeight act s l
      go true h =
          let le = leb-true (height s) k h in
          record { deepest = a.deepest; trace = m ∷ a.trace; reached = Trace.step x a.reached; attains = omega (arith, a.attains); most = most }
      go false h =
          let lt = leb-false (height s) k h in
          record { deepest = s; trace = []; reached = Trace.here; attains = omega arith; most = most }

  fork-height : {s t u : State} {p q : Price} {k l : ℕ} → act s ≡ done (opens p t q u) → LargestHeight act t k → LargestHeight act u l → LargestHeight act s (max (height s) (max k l))
  fork-height {s} {t} {u} {k} {l} e a b = go (leb k l) refl
    where
      most : (ms : List Move) (v : State) → Trace act s ms v → height v ≤ max (height s) (max k l)
      most ms v r = opens-height k l e a.most b.most r

      go : (d : Bool) → leb k l ≡ d → LargestHeight act s (max (height s) (max k l))
      go true h = let le = leb-true k l h in deeper (taken e) b (omega arith) most
      go false h = let lt = leb-false k l h in deeper (not_taken e) a (omega arith) most

  expand-height : (below : ℕ → State → Tree) (ih : (o : ℕ) (s : State) → Complete (below o s) → LargestHeight act s (depth (below o s)))
      (o : ℕ) (s : State) (m : Try Next) → act s ≡ m → Complete (expand below o s m) → LargestHeight act s (depth (expand below o s m))
  unfolding expand depth
  expand-height below ih o s stuck e w = absurd w
  expand-height below ih o s (done (stops p)) e w =
      record { deepest = s; trace = []; reached = Trace.here; attains = refl; most = λ ms v r. let h = stops-height e r in omega arith }
  expand-height below ih o s (done (goes p t)) e w =
      let k = ih o t w in
      deeper (goes_on e) k refl (λ ms v r. goes-height (depth (below o t)) e k.most r)
  expand-height below ih zero s (done (opens p t q u)) e w = absurd w
  expand-height below ih (suc o) s (done (opens p t q u)) e w = fork-height e (ih o t w.0) (ih o u w.1)

  pub tree-height : (f o : ℕ) (s : State) → Complete (tree act f o s) → LargestHeight act s (depth (tree act f o s))
  unfolding tree
  tree-height zero o s w = absurd w
  tree-height (suc f) o s w = expand-height (tree act f) (tree-height f) o s (act s) refl w
