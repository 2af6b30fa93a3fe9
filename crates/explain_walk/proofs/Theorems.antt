-- The walk along PATH is the maximum trace of Definition 11. Assumes nothing.
use Prim.Native.Nat.{ℕ, zero, suc, ◌≤◌}
use mathlib.Core.Path.{◌≡◌, refl, sym, ap, subst, ◌∙◌}
use mathlib.Core.List.{List, [], ◌∷◌}
use native.Mathlib.Omega.{arith}
use lib.ListN.{length}
use Rattle.cells.specs.Try.{Try, done}
use Rattle.cells.specs.Cells.{unknown}
use Rattle.machine.specs.Lists.{nth}
use Rattle.machine.specs.Machine.{State, Next, step}
use Rattle.machine.proofs.FetchLaws.{stuck-not}
use Rattle.bound_theory.specs.Tree.{N, T}
use Rattle.bound_theory.specs.Traces.{Move, move, decisions, Transition, goes_on, not_taken, taken, Path, RunMax}
use Rattle.bound_theory.proofs.PromiseLaws.{bound-exact}
use Rattle.bound_theory.proofs.ForwardLaws.{forward-once}
use Rattle.explain_walk.specs.Walk.{onward, follow}
use Rattle.explain_walk.specs.Promises.{WorstTrace, WalksWorst}

module _ (act : State → Try Next) where
  -- the maximum trace ends in STOP
  run-path : {s : State} {ms : List Move} → RunMax act s ms → Path act s ms
  run-path (RunMax.stop e) = Path.stop e
  run-path (RunMax.next e r) = Path.step (goes_on e) (run-path r)
  run-path (RunMax.taken x e r r' h) = Path.step (taken e) (run-path r')
  run-path (RunMax.not_taken x e r r' h) = Path.step (not_taken e) (run-path r)

  -- a path is walked by its own decisions
  follow-path : {s : State} {ms : List Move} → Path act s ms → (most : ℕ) → length ms ≤ most → follow act most (decisions ms) s ≡ ms
  unfolding follow onward decisions
  follow-path (Path.stop e) zero h = absurd (omega arith)
  follow-path (Path.stop e) (suc k) h = rw e refl
  follow-path (Path.step (goes_on e) r) zero h = absurd (omega arith)
  follow-path (Path.step (goes_on {s} {p = p} e) r) (suc k) h = rw e (ap (λ ms. move s p [] ∷ ms) (follow-path r k (omega arith)))
  follow-path (Path.step (not_taken e) r) zero h = absurd (omega arith)
  follow-path (Path.step (not_taken {s} {p = p} e) r) (suc k) h = rw e (ap (λ ms. move s p (N ∷ []) ∷ ms) (follow-path r k (omega arith)))
  follow-path (Path.step (taken e) r) zero h = absurd (omega arith)
  follow-path (Path.step (taken {s} {q = q} e) r) (suc k) h = rw e (ap (λ ms. move s q (T ∷ []) ∷ ms) (follow-path r k (omega arith)))

  -- ---- each move leads to the next

  transition-at : {s t : State} {m : Move} → Transition act s m t → m.state ≡ s
  transition-at (goes_on e) = refl
  transition-at (not_taken e) = refl
  transition-at (taken e) = refl

  path-first : {s : State} {ms : List Move} → Path act s ms → (m : Move) → nth 0 ms ≡ done m → m.state ≡ s
  unfolding nth
  path-first (Path.stop {s} {p} e) m h = let q : move s p [] ≡ m = cc in ap (λ x. x.state) (sym q)
  path-first (Path.step {m = n} x r) m h = let q : n ≡ m = cc in ap (λ y. y.state) (sym q) ∙ transition-at x

  path-leads : {s : State} {ms : List Move} → Path act s ms → (k : ℕ) (m n : Move) → nth k ms ≡ done m → nth (suc k) ms ≡ done n → Transition act m.state m n.state
  unfolding nth
  path-leads (Path.stop e) zero m n h i = stuck-not n i
  path-leads (Path.stop e) (suc k) m n h i = stuck-not m h
  path-leads (Path.step {s} {t} {m = m'} x r) zero m n h i =
      let q : m' ≡ m = cc in
      let x' : Transition act m'.state m' t = subst (λ u. Transition act u m' t) (sym (transition-at x)) x in
      subst (λ y. Transition act y.state y n.state) q (subst (λ u. Transition act m'.state m' u) (sym (path-first r n i)) x')
  path-leads (Path.step x r) (suc k) m n h i = path-leads r k m n h i

pub walks-worst : WalksWorst
walks-worst c forward budget s q a =
    let act = step c unknown in
    let x = bound-exact c budget s q a in
    let p = run-path act x.worst in
    let l = (forward-once c forward).path unknown s x.trace p in
    let e : follow act (length c.instructions) q.path s ≡ x.trace = ap (λ ds. follow act (length c.instructions) ds s) (sym x.path) ∙ follow-path act p (length c.instructions) l in
    subst (WorstTrace c s q) (sym e) (record { worst = x.worst; lemma12 = x.lemma12; path = x.path; first = path-first act p; leads = path-leads act p })
