-- The first b steps of a tree are the same wherever it is cut off, b steps deep or more. Assumes nothing.
use mathlib.Core.Path.{◌≡◌, refl, ◌∙◌, ap}
use mathlib.Core.List.{List, [], ◌∷◌, ◌++◌, append_assoc}
use Prim.Native.Nat.{ℕ, zero, suc, ◌≤◌}
use native.Mathlib.Omega.{arith}
use lib.ListN.{take}
use Rattle.cells.specs.Try.{Try, stuck, done}
use Rattle.machine.specs.Machine.{State, Next, stops, goes, opens}
use Rattle.bound_theory.specs.Tree.{Tree, expand, tree, Step, made, steps}

-- two lists of steps that agree on their first k, for each k up to b
abbrev Agree : ℕ → List Step → List Step → Type 0
Agree b xs ys = (k : ℕ) → k ≤ b → take k xs ≡ take k ys

behind : (zs : List Step) (b : ℕ) (xs ys : List Step) → Agree b xs ys → Agree b (zs ++ xs) (zs ++ ys)
behind [] b xs ys h k le = h k le
behind (z ∷ zs) b xs ys h zero le = refl
behind (z ∷ zs) b xs ys h (suc k) le = ap (λ l. z ∷ l) (behind zs b xs ys h k (omega arith))

module _ (act : State → Try Next) where
  expand-prefix : (below below' : ℕ → State → Tree) (b : ℕ)
      (ih : (o : ℕ) (s : State) (xs : List Step) → Agree b (steps (below o s) ++ xs) (steps (below' o s) ++ xs))
      (o : ℕ) (s : State) (m : Try Next) (xs : List Step) (k : ℕ) → k ≤ b → take (suc k) (steps (expand below o s m) ++ xs) ≡ take (suc k) (steps (expand below' o s m) ++ xs)
  unfolding expand steps
  expand-prefix below below' b ih o s stuck xs k le = refl
  expand-prefix below below' b ih o s (done (stops p)) xs k le = refl
  expand-prefix below below' b ih o s (done (goes p t)) xs k le = ap (λ l. made s.at ∷ l) (ih o t xs k le)
  expand-prefix below below' b ih zero s (done (opens p t q u)) xs k le = refl
  expand-prefix below below' b ih (suc o) s (done (opens p t q u)) xs k le =
      simp append_assoc
      (ap (λ l. made s.at ∷ l)
      (ih o t (steps (below o u) ++ xs) k le
      ∙ behind (steps (below' o t)) b (steps (below o u) ++ xs) (steps (below' o u) ++ xs) (ih o u xs) k le))

  pub tree-prefix : (f f' b o : ℕ) (s : State) (xs : List Step) → b ≤ f → b ≤ f' → Agree b (steps (tree act f o s) ++ xs) (steps (tree act f' o s) ++ xs)
  unfolding tree
  tree-prefix zero f' b o s xs lf lf' zero le = refl
  tree-prefix zero f' b o s xs lf lf' (suc k) le = absurd (omega arith)
  tree-prefix (suc f) f' b o s xs lf lf' zero le = refl
  tree-prefix (suc f) zero b o s xs lf lf' (suc k) le = absurd (omega arith)
  tree-prefix (suc f) (suc f') b o s xs lf lf' (suc k) le =
      expand-prefix (tree act f) (tree act f') k (λ o s xs. tree-prefix f f' k o s xs (omega arith) (omega arith)) o s (act s) xs k (omega arith)
