-- Accepted where the tree is finite with every step made and within the budget, and refused in the listed cases: in each direction, and
-- apart from any fuel. Assumes nothing.
use mathlib.Core.Path.{◌≡◌, refl, sym, subst, ◌∙◌, ap}
use Prim.Native.Nat.{ℕ, zero, suc, ◌+◌, ◌-◌, ◌≤◌}
use native.Mathlib.Omega.{arith}
use Rattle.refusals.specs.declared.Refusal.{Refusal}
use Rattle.refusals.specs.declared.Refusal.TheVariants.{Stuck, Openings, Spent}
use Rattle.cells.specs.Try.{Try, stuck, done}
use Rattle.machine.specs.Machine.{State, Price, Next, stops, goes, opens}
use Rattle.bound_theory.specs.Tree.{Tree, expand, tree, size, Report, report, Verdict, accepted, refused, verdict, explore}
use Rattle.bound_theory.specs.Traces.{Finite, Comes, Listed}
use Rattle.bound_theory.proofs.TreeLaws.{Complete, contradiction, accepted-complete, complete-accepted}
use Rattle.bound_theory.proofs.ExploreLaws.{before, join, both_ways, explore-spent, explore-stuck, explore-stops, explore-goes, explore-over, explore-opens}

module _ (act : State → Try Next) where
  -- a complete tree is a finite one, of its size
  expand-finite : (below : ℕ → State → Tree) (ih : (o : ℕ) (s : State) → Complete (below o s) → Finite act o s (size (below o s)))
      (o : ℕ) (s : State) (m : Try Next) → act s ≡ m → Complete (expand below o s m) → Finite act o s (size (expand below o s m))
  unfolding expand size
  expand-finite below ih o s stuck e w = absurd w
  expand-finite below ih o s (done (stops p)) e w = Finite.stop e
  expand-finite below ih o s (done (goes p t)) e w = Finite.next e (ih o t w)
  expand-finite below ih zero s (done (opens p t q u)) e w = absurd w
  expand-finite below ih (suc o) s (done (opens p t q u)) e w = Finite.fork e (ih o t w.0) (ih o u w.1)

  tree-finite : (f o : ℕ) (s : State) → Complete (tree act f o s) → Finite act o s (size (tree act f o s))
  unfolding tree
  tree-finite zero o s w = absurd w
  tree-finite (suc f) o s w = expand-finite (tree act f) (tree-finite f) o s (act s) refl w

  pub accepted-finite : (b o : ℕ) (s : State) (q : Report) → explore act o b s ≡ accepted q → Finite act o s q.steps × (q.steps ≤ b)
  unfolding explore verdict report
  accepted-finite b o s q a =
      let t = tree act b o s in
      let (w, le, e) = accepted-complete t b (report t) q a in
      let h : size t ≡ q.steps = ap (λ r. r.steps) e in
      (rw h at (tree-finite b o s w), omega arith)

  -- and a finite tree is complete once the fuel is its size
  record Whole (t : Tree) (n : ℕ) : Type 0 where
    complete : Complete t
    sized : size t ≡ n

  at-root : (f o n : ℕ) (s : State) {m : Try Next} → act s ≡ m → Whole (expand (tree act f) o s m) n → Whole (tree act (suc f) o s) n
  unfolding tree
  at-root f o n s e w = rw e w

  finite-whole : {o n : ℕ} {s : State} → Finite act o s n → (f : ℕ) → n ≤ f → Whole (tree act f o s) n
  unfolding expand size
  finite-whole (Finite.stop e) zero le = absurd (omega arith)
  finite-whole (Finite.stop {o} {s} e) (suc f) le = at-root f o 1 s e (record { complete = tt; sized = refl })
  finite-whole (Finite.next e d) zero le = absurd (omega arith)
  finite-whole (Finite.next {o} {n} {s} e d) (suc f) le =
      let k = finite-whole d f (omega arith) in
      at-root f o (suc n) s e (record { complete = k.complete; sized = ap suc k.sized })
  finite-whole (Finite.fork e d d') zero le = absurd (omega arith)
  finite-whole (Finite.fork {o} {m} {n} {s} e d d') (suc f) le =
      let k = finite-whole d f (omega arith) in
      let l = finite-whole d' f (omega arith) in
      at-root f (suc o) (suc (m + n)) s e (record { complete = (k.complete, l.complete); sized = omega (arith, k.sized, l.sized) })

  pub finite-accepted : {o n : ℕ} {s : State} → Finite act o s n → (b : ℕ) → n ≤ b → (q : Report) × (explore act o b s ≡ accepted q) × (q.steps ≡ n)
  unfolding explore verdict report
  finite-accepted {o} {s} d b le =
      let t = tree act b o s in
      let k = finite-whole d b le in
      (report t, complete-accepted t b (report t) k.complete (omega (arith, k.sized)), k.sized)

  -- a refusal below a step is one of the step, if what is below comes after the step and j steps more
  abbrev After : ℕ → ℕ → State → ℕ → State → Type 0
  After j o t o' s = (k p : ℕ) (v : State) → Comes act o t k p v → Comes act o' s (suc (j + k)) p v

  lift : (j o o' b : ℕ) (s t : State) {x : Refusal} → j ≤ b → After j o t o' s → Listed act o (b - j) t x → Listed act o' (suc b) s x
  lift j o o' b s t le f (Listed.is_stuck {k} {o' = p} {t = v} c h e) = Listed.is_stuck (f k p v c) (omega arith) e
  lift j o o' b s t le f (Listed.opens_too_many {k} {t = v} c h e) = Listed.opens_too_many (f k 0 v c) (omega arith) e
  lift j o o' b s t le f (Listed.is_spent {o' = p} {t = v} c) =
      let h : suc (j + (b - j)) ≡ suc b = omega arith in
      Listed.is_spent (subst (λ k. Comes act o' s k p v) h (f (b - j) p v c))

  -- with no step between
  directly : (o o' b : ℕ) (s t : State) {x : Refusal} → ((k p : ℕ) (v : State) → Comes act o t k p v → Comes act o' s (suc k) p v) →
      Listed act o b t x → Listed act o' (suc b) s x
  directly o o' b s t f l =
      let h : b ≡ b - 0 = omega arith in
      lift 0 o o' b s t (omega arith) (λ k p v c. let e : suc k ≡ suc (0 + k) = omega arith in subst (λ i. Comes act o' s i p v) e (f k p v c)) (rw h at l)

  before-refused : (s : State) (p : Price) {x : Refusal} (v : Verdict) → before s p v ≡ refused x → v ≡ refused x
  unfolding before
  before-refused s p (accepted r) e = contradiction _ _ (sym e)
  before-refused s p (refused y) e = e

  join-refused : (s : State) (p : Price) (r : Report) (q : Price) {x : Refusal} (v : Verdict) → join s p r q v ≡ refused x → v ≡ refused x
  unfolding join
  join-refused s p r q (accepted r') e = contradiction _ _ (sym e)
  join-refused s p r q (refused y) e = e

  -- n bounds the budget: the second way of a branch has what the first left of it
  abbrev Within : ℕ → Type 0
  Within n = (b o : ℕ) (s : State) (x : Refusal) → b ≤ n → explore act o b s ≡ refused x → Listed act o b s x

  by-ways : (n : ℕ) → Within n → (b o : ℕ) (s t u : State) (p q : Price) (x : Refusal) → b ≤ n → act s ≡ done (opens p t q u) →
      (v : Verdict) → explore act o b t ≡ v → both_ways s p v q (λ k. explore act o (b - k) u) ≡ refused x → Listed act (suc o) (suc b) s x
  unfolding both_ways
  by-ways n ih b o s t u p q x le e (refused y) f a =
      let h : y ≡ x = cc in
      directly o (suc o) b s t (λ k p v c. Comes.not_taken e c) (ih b o t x le (rw h at f))
  by-ways n ih b o s t u p q x le e (accepted r) f a =
      let (d, fits) = accepted-finite b o t r f in
      lift r.steps o (suc o) b s u fits (λ k p v c. Comes.taken e d c) (ih (b - r.steps) o u x (omega arith) (join-refused s p r q (explore act o (b - r.steps) u) a))

  by-step : (n : ℕ) → Within n → (b o : ℕ) (s : State) (x : Refusal) → b ≤ n → (m : Try Next) → act s ≡ m → explore act o (suc b) s ≡ refused x → Listed act o (suc b) s x
  by-step n ih b o s x le stuck e a =
      let h : x ≡ Stuck s.at = cc (explore-stuck act b o s e) in
      rw h (Listed.is_stuck Comes.here (omega arith) e)
  by-step n ih b o s x le (done (stops p)) e a = contradiction _ _ (sym a ∙ explore-stops act b o s p e)
  by-step n ih b o s x le (done (goes p t)) e a =
      directly o o b s t (λ k p v c. Comes.next e c) (ih b o t x le (before-refused s p (explore act o b t) (sym (explore-goes act b o s t p e) ∙ a)))
  by-step n ih b zero s x le (done (opens p t q u)) e a =
      let h : x ≡ Openings s.at = cc (explore-over act b s t u p q e) in
      rw h (Listed.opens_too_many Comes.here (omega arith) e)
  by-step n ih b (suc o) s x le (done (opens p t q u)) e a =
      by-ways n ih b o s t u p q x le e (explore act o b t) refl (sym (explore-opens act b o s t u p q e) ∙ a)

  spent : (o : ℕ) (s : State) (x : Refusal) → explore act o 0 s ≡ refused x → Listed act o 0 s x
  spent o s x a =
      let h : x ≡ Spent s.at = cc (explore-spent act o s) in
      rw h (Listed.is_spent Comes.here)

  within : (n : ℕ) → Within n
  within zero zero o s x le a = spent o s x a
  within zero (suc b) o s x le a = absurd (omega arith)
  within (suc n) zero o s x le a = spent o s x a
  within (suc n) (suc b) o s x le a = by-step n (λ b o s x le a. within n b o s x le a) b o s x (omega arith) (act s) refl a

  pub refused-listed : (o b : ℕ) (s : State) (x : Refusal) → explore act o b s ≡ refused x → Listed act o b s x
  refused-listed o b s x a = within b b o s x (omega arith) a

  -- where the order comes to a step that is refused, with d left of the budget, so is the start
  comes-refused : {o k o' : ℕ} {s v : State} {x : Refusal} → Comes act o s k o' v → (b d : ℕ) → b ≡ k + d → explore act o' d v ≡ refused x → explore act o b s ≡ refused x
  unfolding before both_ways join
  comes-refused Comes.here b d h a = let e : b ≡ d = omega arith in rw e a
  comes-refused (Comes.next e c) zero d h a = absurd (omega arith)
  comes-refused (Comes.next {o} {s} {t} {p} e c) (suc b) d h a =
      explore-goes act b o s t p e ∙ ap (before s p) (comes-refused c b d (omega arith) a)
  comes-refused (Comes.not_taken e c) zero d h a = absurd (omega arith)
  comes-refused (Comes.not_taken {o} {s} {t} {u} {p} {q} e c) (suc b) d h a =
      explore-opens act b o s t u p q e ∙ ap (λ v. both_ways s p v q (λ k. explore act o (b - k) u)) (comes-refused c b d (omega arith) a)
  comes-refused (Comes.taken e f c) zero d h a = absurd (omega arith)
  comes-refused (Comes.taken {o} {n} {k} {s} {t} {u} {p} {q} e f c) (suc b) d h a =
      let (r, g, i) = finite-accepted f b (omega arith) in
      let j : b - r.steps ≡ k + d = omega arith in
      explore-opens act b o s t u p q e ∙ ap (λ v. both_ways s p v q (λ k. explore act o (b - k) u)) g
      ∙ ap (join s p r q) (comes-refused c (b - r.steps) d j a)

  pub listed-refused : {o b : ℕ} {s : State} {x : Refusal} → Listed act o b s x → explore act o b s ≡ refused x
  listed-refused {o} {b} {s} (Listed.is_stuck {k} {o'} {t} c h e) =
      comes-refused c b (suc (b - suc k)) (omega arith) (explore-stuck act (b - suc k) o' t e)
  listed-refused {o} {b} {s} (Listed.opens_too_many {k} {t} {u} {v} {p} {q} c h e) =
      comes-refused c b (suc (b - suc k)) (omega arith) (explore-over act (b - suc k) t u v p q e)
  listed-refused {o} {b} {s} (Listed.is_spent {o'} {t} c) = comes-refused c b 0 (omega arith) (explore-spent act o' t)
