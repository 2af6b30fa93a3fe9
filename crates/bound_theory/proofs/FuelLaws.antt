-- Where the tree is cut off does not matter to the verdict: a step that is d steps deep has at least d steps before it.
-- Assumes nothing.
use mathlib.Core.Path.{◌≡◌, refl, sym, ◌∙◌, ap}
use mathlib.Core.Logic.{◌⊎◌, inl, inr, ⊎_elim}
use mathlib.Core.List.{List, [], ◌∷◌, ◌++◌, append_assoc, append-nil}
use Prim.Native.Nat.{ℕ, zero, suc, ◌≤◌}
use native.Mathlib.Omega.{arith}
use Rattle.refusals.specs.declared.Refusal.TheVariants.{Spent}
use Rattle.cells.specs.Try.{Try, stuck, done}
use Rattle.machine.specs.Machine.{State, Next, stops, goes, opens}
use Rattle.bound_theory.specs.Tree.{Tree, expand, tree, Report, report, Step, made, not_made, address, steps, accepted, refused, judge, verdict}
use Rattle.bound_theory.proofs.TreeLaws.{Complete, accepted-complete}

-- two lists of steps that are judged alike, under each budget up to b
abbrev Alike : Report → ℕ → List Step → List Step → Type 0
Alike r b xs ys = (k : ℕ) → k ≤ b → judge k xs r ≡ judge k ys r

after : (r : Report) (zs : List Step) (b : ℕ) (xs ys : List Step) → Alike r b xs ys → Alike r b (zs ++ xs) (zs ++ ys)
unfolding judge
after r [] b xs ys h k le = h k le
after r (z ∷ zs) b xs ys h zero le = refl
after r (made a ∷ zs) b xs ys h (suc k) le = after r zs b xs ys h k (omega arith)
after r (not_made y a ∷ zs) b xs ys h (suc k) le = refl

module _ (act : State → Try Next) (r : Report) where
  expand-spent : (below : ℕ → State → Tree) (o : ℕ) (s : State) (m : Try Next) (xs : List Step) → judge 0 (steps (expand below o s m) ++ xs) r ≡ refused (Spent s.at)
  unfolding expand steps judge address
  expand-spent below o s stuck xs = refl
  expand-spent below o s (done (stops p)) xs = refl
  expand-spent below o s (done (goes p t)) xs = refl
  expand-spent below zero s (done (opens p t q u)) xs = refl
  expand-spent below (suc o) s (done (opens p t q u)) xs = refl

  tree-spent : (f o : ℕ) (s : State) (xs : List Step) → judge 0 (steps (tree act f o s) ++ xs) r ≡ refused (Spent s.at)
  unfolding tree steps judge address
  tree-spent zero o s xs = refl
  tree-spent (suc f) o s xs = expand-spent (tree act f) o s (act s) xs

  expand-fuel : (below below' : ℕ → State → Tree) (b : ℕ)
      (ih : (o : ℕ) (s : State) (xs : List Step) → Alike r b (steps (below o s) ++ xs) (steps (below' o s) ++ xs))
      (o : ℕ) (s : State) (m : Try Next) (xs : List Step) (k : ℕ) → k ≤ b → judge (suc k) (steps (expand below o s m) ++ xs) r ≡ judge (suc k) (steps (expand below' o s m) ++ xs) r
  unfolding expand steps judge
  expand-fuel below below' b ih o s stuck xs k le = refl
  expand-fuel below below' b ih o s (done (stops p)) xs k le = refl
  expand-fuel below below' b ih o s (done (goes p t)) xs k le = ih o t xs k le
  expand-fuel below below' b ih zero s (done (opens p t q u)) xs k le = refl
  expand-fuel below below' b ih (suc o) s (done (opens p t q u)) xs k le =
      simp append_assoc
      (ih o t (steps (below o u) ++ xs) k le
      ∙ after r (steps (below' o t)) b (steps (below o u) ++ xs) (steps (below' o u) ++ xs) (ih o u xs) k le)

  tree-fuel : (f f' b o : ℕ) (s : State) (xs : List Step) → b ≤ f → b ≤ f' → Alike r b (steps (tree act f o s) ++ xs) (steps (tree act f' o s) ++ xs)
  unfolding tree
  tree-fuel zero f' b o s xs lf lf' zero le = tree-spent zero o s xs ∙ sym (tree-spent f' o s xs)
  tree-fuel zero f' b o s xs lf lf' (suc k) le = absurd (omega arith)
  tree-fuel (suc f) f' b o s xs lf lf' zero le = tree-spent (suc f) o s xs ∙ sym (tree-spent f' o s xs)
  tree-fuel (suc f) zero b o s xs lf lf' (suc k) le = absurd (omega arith)
  tree-fuel (suc f) (suc f') b o s xs lf lf' (suc k) le =
      expand-fuel (tree act f) (tree act f') k (λ o s xs. tree-fuel f f' k o s xs (omega arith) (omega arith)) o s (act s) xs k (omega arith)

-- a complete tree is the same with more fuel
module _ (act : State → Try Next) where
  expand-same : (below below' : ℕ → State → Tree) (ih : (o : ℕ) (s : State) → Complete (below o s) → below o s ≡ below' o s)
      (o : ℕ) (s : State) (m : Try Next) → Complete (expand below o s m) → expand below o s m ≡ expand below' o s m
  unfolding expand
  expand-same below below' ih o s stuck w = absurd w
  expand-same below below' ih o s (done (stops p)) w = refl
  expand-same below below' ih o s (done (goes p t)) w = rw (ih o t w)
  expand-same below below' ih zero s (done (opens p t q u)) w = absurd w
  expand-same below below' ih (suc o) s (done (opens p t q u)) w = rw (ih o t w.0, ih o u w.1)

  tree-same : (f f' o : ℕ) (s : State) → f ≤ f' → Complete (tree act f o s) → tree act f o s ≡ tree act f' o s
  unfolding tree
  tree-same zero f' o s le w = absurd w
  tree-same (suc f) zero o s le w = absurd (omega arith)
  tree-same (suc f) (suc f') o s le w = expand-same (tree act f) (tree act f') (λ o s w. tree-same f f' o s (omega arith) w) o s (act s) w

-- a verdict is the report, or does not depend on it
judge-cases : (b : ℕ) (xs : List Step) (r r' : Report) → (judge b xs r ≡ accepted r) ⊎ (judge b xs r ≡ judge b xs r')
unfolding judge
judge-cases b [] r r' = inl refl
judge-cases zero (x ∷ xs) r r' = inr refl
judge-cases (suc b) (made a ∷ xs) r r' = judge-cases b xs r r'
judge-cases (suc b) (not_made y a ∷ xs) r r' = inr refl

pub verdict-fuel : (act : State → Try Next) (b f o : ℕ) (s : State) → b ≤ f → verdict b (tree act f o s) ≡ verdict b (tree act b o s)
unfolding verdict
verdict-fuel act b f o s le =
    let t = tree act b o s in
    let u = tree act f o s in
    ⊎_elim
    (λ e. ap (verdict b) (sym (tree-same act b f o s le (accepted-complete t b (report t) (report t) e).0)))
    (λ e. simp append-nil at (tree-fuel act (report u) f b b o s [] le (omega arith) b (omega arith)) ∙ sym e)
    (judge-cases b (steps t) (report t) (report u))
