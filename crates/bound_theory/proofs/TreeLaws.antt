-- The tree from a state that another covers: every step of it is made where every step of the other's is, and no figure of its report
-- is greater. Over any two actions on states and any relation that they keep: nothing here knows a cell or an instruction.
-- Assumes nothing.
use mathlib.Core.Path.{◌≡◌, refl, ◌∙◌}
use mathlib.Core.List.{List, [], ◌++◌, append_assoc, append-nil}
use Prim.Native.Nat.{ℕ, zero, suc, ◌+◌, ◌-◌, ◌≤◌}
use native.Mathlib.Omega.{arith}
use lib.ListN.{length, length-append}
use Rattle.refusals.specs.declared.Refusal.{Refusal}
use Rattle.cells.specs.Try.{Try, stuck, done}
use Rattle.cells.specs.Covering.{Covered, by_stuck, both}
use Rattle.machine.specs.Machine.{State, Next, stops, goes, opens, height}
use Rattle.machine.specs.Covering.{NextCovered, stops_too, goes_too, opens_too, goes_not_taken, goes_taken}
use Rattle.bound_theory.specs.Tree.{Tree, unmade, stop, next, fork, expand, tree, cycles, words, depth, size, Report, report, Step, steps, accepted, refused, judge}
use Rattle.bound_theory.specs.Promises.{NoGreater}

-- every step of the tree is made
abbrev pub Complete : Tree → Type 0
Complete (unmade r s) = ⊥
Complete (stop s p) = Unit {0}
Complete (next s p t) = Complete t
Complete (fork s p t q u) = Complete t × Complete u

pub record NoMore (t u : Tree) : Type 0 where
  pub complete : Complete t
  pub less : NoGreater (report t) (report u)

module _ {R : State → State → Type 0} (heights : (s t : State) → R s t → height s ≡ height t) where
  expand-law : (below below' : ℕ → State → Tree)
      (ih : (o o' : ℕ) (s t : State) → o' ≤ o → R s t → Complete (below' o' t) → NoMore (below o s) (below' o' t))
      (o o' : ℕ) {s t : State} {m n : Try Next} → o' ≤ o → R s t → Covered (NextCovered R (Unit {0})) m n →
      Complete (expand below' o' t n) → NoMore (expand below o s m) (expand below' o' t n)
  unfolding expand report cycles words depth size
  expand-law below below' ih o o' le r by_stuck w = absurd w
  expand-law below below' ih o o' {s} {t} le r (both stops_too) w =
      let h = heights s t r in
      record { complete = tt; less = omega arith }
  expand-law below below' ih o o' {s} {t} le r (both (goes_too {s = a} {t = b} r')) w =
      let h = heights s t r in
      let k = ih o o' a b le r' w in
      record { complete = k.complete; less = omega arith }
  expand-law below below' ih o zero le r (both (opens_too _ r₁ r₂)) w = absurd w
  expand-law below below' ih zero (suc o') le r (both (opens_too _ r₁ r₂)) w = absurd (omega arith)
  expand-law below below' ih (suc o) (suc o') {s} {t} le r (both (opens_too {s = a} {t = b} {s' = a'} {t' = b'} _ r₁ r₂)) w =
      let h = heights s t r in
      let k = ih o o' a a' (omega arith) r₁ w.0 in
      let l = ih o o' b b' (omega arith) r₂ w.1 in
      record { complete = (k.complete, l.complete); less = omega arith }
  expand-law below below' ih o zero le r (both (goes_not_taken r')) w = absurd w
  expand-law below below' ih o (suc o') {s} {t} le r (both (goes_not_taken {s = a} {s' = b} r')) w =
      let h = heights s t r in
      let k = ih o o' a b (omega arith) r' w.0 in
      record { complete = k.complete; less = omega arith }
  expand-law below below' ih o zero le r (both (goes_taken r')) w = absurd w
  expand-law below below' ih o (suc o') {s} {t} le r (both (goes_taken {t = a} {t' = b} r')) w =
      let h = heights s t r in
      let k = ih o o' a b (omega arith) r' w.1 in
      record { complete = k.complete; less = omega arith }

  -- with at least as much fuel and as many openings
  pub tree-law : (act act' : State → Try Next) (keeps : (s t : State) → R s t → Covered (NextCovered R (Unit {0})) (act s) (act' t))
      (f f' o o' : ℕ) (s t : State) → f' ≤ f → o' ≤ o → R s t → Complete (tree act' f' o' t) → NoMore (tree act f o s) (tree act' f' o' t)
  unfolding tree
  tree-law act act' keeps f zero o o' s t lf lo r w = absurd w
  tree-law act act' keeps zero (suc f') o o' s t lf lo r w = absurd (omega arith)
  tree-law act act' keeps (suc f) (suc f') o o' s t lf lo r w =
      expand-law (tree act f) (tree act' f') (λ o o' s t lo r w. tree-law act act' keeps f f' o o' s t (omega arith) lo r w) o o' lo r (keeps s t r) w

-- the root's height is one of the tree's, and the root one of its steps
expand-root : (below : ℕ → State → Tree) (o : ℕ) (s : State) (m : Try Next) → (height s ≤ depth (expand below o s m)) × (1 ≤ size (expand below o s m))
unfolding expand depth size
expand-root below o s stuck = omega arith
expand-root below o s (done (stops p)) = omega arith
expand-root below o s (done (goes p t)) = omega arith
expand-root below zero s (done (opens p t q u)) = omega arith
expand-root below (suc o) s (done (opens p t q u)) = omega arith

pub tree-root : (act : State → Try Next) (f o : ℕ) (s : State) → (height s ≤ depth (tree act f o s)) × (1 ≤ size (tree act f o s))
unfolding tree depth size
tree-root act zero o s = omega arith
tree-root act (suc f) o s = expand-root (tree act f) o s (act s)

-- "STEPS is the size of the tree": the number of steps listed
pub steps-size : (t : Tree) → length (steps t) ≡ size t
unfolding steps size
steps-size (unmade r s) = refl
steps-size (stop s p) = refl
steps-size (next s p t) = let h = steps-size t in omega arith
steps-size (fork s p t q u) = let h = steps-size t in let k = steps-size u in simp length-append (omega arith)

-- the verdict accepts exactly the complete trees within the budget
record Passed (t : Tree) (b : ℕ) (xs : List Step) (r r' : Report) : Type 0 where
  complete : Complete t
  spare : ℕ
  fits : b ≡ size t + spare
  on : judge spare xs r ≡ accepted r'

pub contradiction : {A : Type 0} (x : Refusal) (r : Report) → refused x ≡ accepted r → A
contradiction x r e = let z : ◌≡◌ {A = ℕ} 0 1 = cc in absurd (omega arith)

passes : (t : Tree) (b : ℕ) (xs : List Step) (r r' : Report) → judge b (steps t ++ xs) r ≡ accepted r' → Passed t b xs r r'
unfolding judge steps size
passes (unmade y s) zero xs r r' e = contradiction _ _ e
passes (unmade y s) (suc b) xs r r' e = contradiction _ _ e
passes (stop s p) zero xs r r' e = contradiction _ _ e
passes (stop s p) (suc b) xs r r' e = record { complete = tt; spare = b; fits = omega arith; on = e }
passes (next s p t) zero xs r r' e = contradiction _ _ e
passes (next s p t) (suc b) xs r r' e =
    let k = passes t b xs r r' e in
    record { complete = k.complete; spare = k.spare; fits = omega (arith, k.fits); on = k.on }
passes (fork s p t q u) zero xs r r' e = contradiction _ _ e
passes (fork s p t q u) (suc b) xs r r' e =
    let k = passes t b (steps u ++ xs) r r' (rw append_assoc at e) in
    let l = passes u k.spare xs r r' k.on in
    record { complete = (k.complete, l.complete); spare = l.spare; fits = omega (arith, k.fits, l.fits); on = l.on }

passed : (t : Tree) (b spare : ℕ) (xs : List Step) (r : Report) → b ≡ size t + spare → Complete t → judge b (steps t ++ xs) r ≡ judge spare xs r
unfolding judge steps size
passed (unmade y s) b spare xs r e w = absurd w
passed (stop s p) zero spare xs r e w = absurd (omega arith)
passed (stop s p) (suc b) spare xs r e w = let h : b ≡ spare = omega arith in rw h
passed (next s p t) zero spare xs r e w = absurd (omega arith)
passed (next s p t) (suc b) spare xs r e w = passed t b spare xs r (omega arith) w
passed (fork s p t q u) zero spare xs r e w = absurd (omega arith)
passed (fork s p t q u) (suc b) spare xs r e w =
    rw append_assoc
    (passed t b (size u + spare) (steps u ++ xs) r (omega arith) w.0 ∙ passed u (size u + spare) spare xs r refl w.1)

pub accepted-complete : (t : Tree) (b : ℕ) (r r' : Report) → judge b (steps t) r ≡ accepted r' → Complete t × (size t ≤ b) × (r ≡ r')
unfolding judge
accepted-complete t b r r' e =
    let k = passes t b [] r r' (rw append-nil e) in
    let on : accepted r ≡ accepted r' = k.on in
    (k.complete, omega (arith, k.fits), cc)

pub complete-accepted : (t : Tree) (b : ℕ) (r : Report) → Complete t → size t ≤ b → judge b (steps t) r ≡ accepted r
unfolding judge
complete-accepted t b r w le = rw (← append-nil (steps t)) (passed t b (b - size t) [] r (omega arith) w)
