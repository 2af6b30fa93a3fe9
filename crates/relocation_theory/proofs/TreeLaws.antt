-- The tree of an action at other addresses: the same figures, and the same steps at addresses that are higher by f. Assumes nothing.
use Prim.Native.Nat.{ℕ, zero, suc, ◌+◌, max}
use mathlib.Core.Path.{◌≡◌, refl, ap, ap₂, ◌∙◌}
use mathlib.Core.List.{List, [], ◌∷◌, ◌++◌, map}
use lib.Dec.{leb}
use Rattle.cells.specs.Try.{Try, stuck, done}
use Rattle.machine.specs.Machine.{State, Next, stops, goes, opens, height, jump}
use Rattle.bound_theory.specs.Tree.{Reason, is_stuck, opens_too_many, is_cut, Tree, unmade, stop, next, fork, expand, tree, Step, made, not_made, address, steps, size, cycles, words, depth, worse, path, Report, report, refused, refusal, judge, verdict, explore}
use Rattle.relocation_theory.specs.Raised.{raise_state, raise_refusal, raise_verdict}
use Rattle.relocation_theory.proofs.StepLaws.{map_try, raise_next}

-- a tree, and a step of it
unfoldable raise_tree : ℕ → Tree → Tree
raise_tree f (unmade r s) = unmade r (raise_state f s)
raise_tree f (stop s p) = stop (raise_state f s) p
raise_tree f (next s p t) = next (raise_state f s) p (raise_tree f t)
raise_tree f (fork s p t q u) = fork (raise_state f s) p (raise_tree f t) q (raise_tree f u)

unfoldable raise_step : ℕ → Step → Step
raise_step f (made a) = made (a + f)
raise_step f (not_made r a) = not_made r (a + f)

map-append : {A B : Type 0} (g : A → B) (xs ys : List A) → map g (xs ++ ys) ≡ map g xs ++ map g ys
map-append g [] ys = refl
map-append g (x ∷ xs) ys = ap (λ zs. g x ∷ zs) (map-append g xs ys)

module _ (f : ℕ) where
  -- ---- the figures

  steps-raised : (t : Tree) → steps (raise_tree f t) ≡ map (raise_step f) (steps t)
  unfolding steps raise_tree raise_step raise_state jump
  steps-raised (unmade r s) = refl
  steps-raised (stop s p) = refl
  steps-raised (next s p t) = ap (λ xs. made (s.at + f) ∷ xs) (steps-raised t)
  steps-raised (fork s p t q u) = ap (λ xs. made (s.at + f) ∷ xs) (ap₂ ◌++◌ (steps-raised t) (steps-raised u) ∙ go (map-append (raise_step f) (steps t) (steps u)))
    where
      go : {xs ys : List Step} → xs ≡ ys → ys ≡ xs
      go e = cc

  size-raised : (t : Tree) → size (raise_tree f t) ≡ size t
  unfolding size raise_tree
  size-raised (unmade r s) = refl
  size-raised (stop s p) = refl
  size-raised (next s p t) = ap suc (size-raised t)
  size-raised (fork s p t q u) = ap₂ (λ m n. suc (m + n)) (size-raised t) (size-raised u)

  cycles-raised : (t : Tree) → cycles (raise_tree f t) ≡ cycles t
  unfolding cycles raise_tree
  cycles-raised (unmade r s) = refl
  cycles-raised (stop s p) = refl
  cycles-raised (next s p t) = ap (λ n. p.cycles + n) (cycles-raised t)
  cycles-raised (fork s p t q u) = ap₂ (λ m n. max (p.cycles + m) (q.cycles + n)) (cycles-raised t) (cycles-raised u)

  words-raised : (t : Tree) → words (raise_tree f t) ≡ words t
  unfolding words raise_tree
  words-raised (unmade r s) = refl
  words-raised (stop s p) = refl
  words-raised (next s p t) = ap (λ n. p.words + n) (words-raised t)
  words-raised (fork s p t q u) = ap₂ (λ m n. max (p.words + m) (q.words + n)) (words-raised t) (words-raised u)

  depth-raised : (t : Tree) → depth (raise_tree f t) ≡ depth t
  unfolding depth raise_tree raise_state jump height
  depth-raised (unmade r s) = refl
  depth-raised (stop s p) = refl
  depth-raised (next s p t) = ap (λ n. max (height s) n) (depth-raised t)
  depth-raised (fork s p t q u) = ap₂ (λ m n. max (height s) (max m n)) (depth-raised t) (depth-raised u)

  path-raised : (t : Tree) → path (raise_tree f t) ≡ path t
  unfolding path raise_tree
  path-raised (unmade r s) = refl
  path-raised (stop s p) = refl
  path-raised (next s p t) = path-raised t
  path-raised (fork s p t q u) =
      ap₂ (λ m n. worse (leb (p.cycles + m) (q.cycles + n)) (path (raise_tree f t)) (path (raise_tree f u))) (cycles-raised t) (cycles-raised u)
      ∙ ap₂ (worse (leb (p.cycles + cycles t) (q.cycles + cycles u))) (path-raised t) (path-raised u)

  report-raised : (t : Tree) → report (raise_tree f t) ≡ report t
  unfolding report
  report-raised t = simp (cycles-raised, words-raised, depth-raised, size-raised, path-raised)

  -- ---- the verdict

  refusal-raised : (r : Reason) (a : ℕ) → refusal r (a + f) ≡ raise_refusal f (refusal r a)
  unfolding refusal raise_refusal
  refusal-raised is_stuck a = refl
  refusal-raised opens_too_many a = refl
  refusal-raised is_cut a = refl

  judge-raised : (b : ℕ) (xs : List Step) (r : Report) → judge b (map (raise_step f) xs) r ≡ raise_verdict f (judge b xs r)
  unfolding judge raise_step raise_verdict raise_refusal address
  judge-raised b [] r = refl
  judge-raised zero (made a ∷ xs) r = refl
  judge-raised zero (not_made y a ∷ xs) r = refl
  judge-raised (suc b) (made a ∷ xs) r = judge-raised b xs r
  judge-raised (suc b) (not_made y a ∷ xs) r = ap refused (refusal-raised y a)

  -- ---- the tree of an action that is the same at higher addresses

  module _ (act high : State → Try Next) (same : (s : State) → high (raise_state f s) ≡ map_try (raise_next f) (act s)) where
    expand-raised : (below above : ℕ → State → Tree) → ((o : ℕ) (s : State) → above o (raise_state f s) ≡ raise_tree f (below o s)) →
        (o : ℕ) (s : State) (m : Try Next) → expand above o (raise_state f s) (map_try (raise_next f) m) ≡ raise_tree f (expand below o s m)
    unfolding expand raise_tree map_try raise_next
    expand-raised below above h o s stuck = refl
    expand-raised below above h o s (done (stops p)) = refl
    expand-raised below above h o s (done (goes p t)) = ap (next (raise_state f s) p) (h o t)
    expand-raised below above h zero s (done (opens p t q u)) = refl
    expand-raised below above h (suc o) s (done (opens p t q u)) = ap₂ (λ x y. fork (raise_state f s) p x q y) (h o t) (h o u)

    tree-raised : (fuel o : ℕ) (s : State) → tree high fuel o (raise_state f s) ≡ raise_tree f (tree act fuel o s)
    unfolding tree raise_tree
    tree-raised zero o s = refl
    tree-raised (suc fuel) o s =
        ap (expand (tree high fuel) o (raise_state f s)) (same s) ∙ expand-raised (tree act fuel) (tree high fuel) (tree-raised fuel) o s (act s)

    pub explore-raised : (o budget : ℕ) (s : State) → explore high o budget (raise_state f s) ≡ raise_verdict f (explore act o budget s)
    unfolding explore verdict
    explore-raised o budget s =
        let t = tree act budget o s in
        ap (λ x. judge budget (steps x) (report x)) (tree-raised budget o s)
        ∙ ap₂ (judge budget) (steps-raised t) (report-raised t)
        ∙ judge-raised budget (steps t) (report t)
