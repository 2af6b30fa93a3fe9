-- The steps walked go by the steps, as the verdict does: how many they are, by what the step from s leads to. Assumes nothing.
use mathlib.Core.Path.{◌≡◌, refl, sym, ◌∙◌, ap}
use mathlib.Core.List.{List, [], ◌∷◌, ◌++◌, append-nil}
use Prim.Native.Nat.{ℕ, zero, suc, ◌+◌, ◌-◌, ◌≤◌}
use native.Mathlib.Omega.{arith}
use lib.ListN.{take, length}
use Rattle.refusals.specs.declared.Refusal.{Refusal}
use Rattle.cells.specs.Try.{Try, stuck, done}
use Rattle.machine.specs.Machine.{State, Price, Next, stops, goes, opens}
use Rattle.bound_theory.specs.Tree.{expand, tree, Step, made, not_made, steps, Report, report, accepted, refused, judge, verdict}
use Rattle.bound_theory.specs.Tree as bounds
use Rattle.bound_theory.proofs.TreeLaws.{steps-size, accepted-complete}
use Rattle.bound_theory.proofs.PrefixLaws.{tree-prefix}
use Rattle.bound_figures.specs.HeldFigures.{walked}

-- only the first b steps count
walked-take : (b : ℕ) (xs : List Step) → walked b xs ≡ walked b (take b xs)
unfolding walked
walked-take zero [] = refl
walked-take zero (x ∷ xs) = refl
walked-take (suc b) [] = refl
walked-take (suc b) (made a ∷ xs) = ap suc (walked-take b xs)
walked-take (suc b) (not_made r a ∷ xs) = refl

-- steps that are refused, whatever follows them
walked-refused : (b : ℕ) (xs ys : List Step) (r : Report) (x : Refusal) → judge b xs r ≡ refused x → walked b (xs ++ ys) ≡ walked b xs
unfolding walked judge
walked-refused b [] ys r x e = let z : ◌≡◌ {A = ℕ} 0 1 = cc in absurd (omega arith)
walked-refused zero (y ∷ xs) ys r x e = refl
walked-refused (suc b) (made a ∷ xs) ys r x e = ap suc (walked-refused b xs ys r x e)
walked-refused (suc b) (not_made y a ∷ xs) ys r x e = refl

-- steps that are all made, and then more
walked-made : (b : ℕ) (xs ys : List Step) (r : Report) → judge b xs r ≡ accepted r → walked b (xs ++ ys) ≡ length xs + walked (b - length xs) ys
unfolding walked judge
walked-made b [] ys r e = let h : b ≡ b - 0 = omega arith in ap (λ k. walked k ys) h ∙ omega arith
walked-made zero (y ∷ xs) ys r e = let z : ◌≡◌ {A = ℕ} 0 1 = cc in absurd (omega arith)
walked-made (suc b) (made a ∷ xs) ys r e =
    let h = walked-made b xs ys r e in
    let g : b - length xs ≡ suc b - suc (length xs) = omega arith in
    omega (arith, h, ap (λ k. walked k ys) g)
walked-made (suc b) (not_made y a ∷ xs) ys r e = let z : ◌≡◌ {A = ℕ} 0 1 = cc in absurd (omega arith)

module _ (act : State → Try Next) where
  -- the steps walked from s with b left of the budget and o openings
  abbrev pub used : ℕ → ℕ → State → ℕ
  used o b s = walked b (steps (tree act b o s))

  -- a deeper tree has no more of them
  used-fuel : (b f o : ℕ) (s : State) → b ≤ f → walked b (steps (tree act f o s)) ≡ used o b s
  used-fuel b f o s le =
      walked-take b (steps (tree act f o s))
      ∙ ap (walked b) (simp append-nil at (tree-prefix act f b b o s [] le (omega arith) b (omega arith)))
      ∙ sym (walked-take b (steps (tree act b o s)))

  by-step : (b o : ℕ) (s : State) {m : Try Next} → act s ≡ m → used o (suc b) s ≡ walked (suc b) (steps (expand (tree act b) o s m))
  unfolding tree
  by-step b o s e = ap (λ m. walked (suc b) (steps (expand (tree act b) o s m))) e

  pub used-spent : (o : ℕ) (s : State) → used o 0 s ≡ 0
  unfolding walked tree steps
  used-spent o s = refl

  pub used-stuck : (b o : ℕ) (s : State) → act s ≡ stuck → used o (suc b) s ≡ 1
  unfolding walked expand steps
  used-stuck b o s e = by-step b o s e

  pub used-stops : (b o : ℕ) (s : State) (p : Price) → act s ≡ done (stops p) → used o (suc b) s ≡ 1
  unfolding walked expand steps
  used-stops zero o s p e = by-step zero o s e
  used-stops (suc b) o s p e = by-step (suc b) o s e

  pub used-goes : (b o : ℕ) (s t : State) (p : Price) → act s ≡ done (goes p t) → used o (suc b) s ≡ suc (used o b t)
  unfolding walked expand steps
  used-goes b o s t p e = by-step b o s e

  pub used_over : (b : ℕ) (s t u : State) (p q : Price) → act s ≡ done (opens p t q u) → used 0 (suc b) s ≡ 1
  unfolding walked expand steps
  used_over b s t u p q e = by-step b 0 s e

  pub used-first : (b o : ℕ) (s t u : State) (p q : Price) (x : Refusal) → act s ≡ done (opens p t q u) → bounds.explore act o b t ≡ refused x →
      used (suc o) (suc b) s ≡ suc (used o b t)
  unfolding walked expand steps bounds.explore verdict
  used-first b o s t u p q x e f =
      by-step b (suc o) s e ∙ ap suc (walked-refused b (steps (tree act b o t)) (steps (tree act b o u)) (report (tree act b o t)) x f)

  pub used-both : (b o : ℕ) (s t u : State) (p q : Price) (r : Report) → act s ≡ done (opens p t q u) → bounds.explore act o b t ≡ accepted r →
      used (suc o) (suc b) s ≡ suc (r.steps + used o (b - r.steps) u)
  unfolding walked expand steps bounds.explore verdict report
  used-both b o s t u p q r e f =
      let x = tree act b o t in
      let (w, le, g) = accepted-complete x b (report x) r f in
      let h : length (steps x) ≡ r.steps = steps-size x ∙ ap (λ q. q.steps) g in
      by-step b (suc o) s e
      ∙ ap suc
      (walked-made b (steps x) (steps (tree act b o u)) (report x) (f ∙ ap accepted (sym g))
      ∙ ap (λ k. k + walked (b - k) (steps (tree act b o u))) h
      ∙ ap (λ k. r.steps + k) (used-fuel (b - r.steps) b o u (omega arith)))
