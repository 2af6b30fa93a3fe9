-- The verdict goes by the steps, as an explorer makes them: what `explore act o b s` is, by what the step from s leads to, with b the
-- budget and o the openings that are left. Assumes nothing.
use mathlib.Core.Path.{◌≡◌, refl, ◌∙◌, ap, fun_ext}
use mathlib.Core.List.{List, [], ◌∷◌, ◌++◌}
use Prim.Native.Nat.{ℕ, zero, suc, ◌+◌, ◌-◌, max}
use native.Mathlib.Omega.{arith}
use lib.Dec.{leb}
use lib.ListN.{length}
use Rattle.refusals.specs.declared.Refusal.{Refusal}
use Rattle.refusals.specs.declared.Refusal.TheVariants.{Stuck, Openings, Spent}
use Rattle.cells.specs.Try.{Try, stuck, done}
use Rattle.machine.specs.Machine.{State, Price, Next, stops, goes, opens, height}
use Rattle.bound_theory.specs.Tree.{Tree, next, fork, expand, tree, cycles, words, depth, size, path, worse, Report, report, refusal, Step, made, not_made, address, steps, Verdict, accepted, refused, judge, verdict, explore}
use Rattle.bound_theory.proofs.TreeLaws.{steps-size}
use Rattle.bound_theory.proofs.FuelLaws.{verdict-fuel}

-- the steps of one tree, and then more: within the budget, or refused whatever follows
data Split (b : ℕ) (xs ys : List Step) : Type 0 where
  fits : (spare : ℕ) → b ≡ length xs + spare → ((r : Report) → judge b xs r ≡ accepted r) → ((r : Report) → judge b (xs ++ ys) r ≡ judge spare ys r) → Split b xs ys
  fails : (x : Refusal) → ((r : Report) → judge b xs r ≡ refused x) → ((r : Report) → judge b (xs ++ ys) r ≡ refused x) → Split b xs ys

split : (b : ℕ) (xs ys : List Step) → Split b xs ys
unfolding judge
split b [] ys = fits b (omega arith) (λ r. refl) (λ r. refl)
split zero (x ∷ xs) ys = fails (Spent (address x)) (λ r. refl) (λ r. refl)
split (suc b) (not_made y a ∷ xs) ys = fails (refusal y a) (λ r. refl) (λ r. refl)
split (suc b) (made a ∷ xs) ys = more (split b xs ys)
  where
    more : Split b xs ys → Split (suc b) (made a ∷ xs) ys
    more (fits spare e f g) = fits spare (omega arith) f g
    more (fails x f g) = fails x f g

-- a step before what follows
unfoldable pub before : State → Price → Verdict → Verdict
before s p (refused x) = refused x
before s p (accepted r) = accepted (record { cycles = p.cycles + r.cycles; words = p.words + r.words; depth = max (height s) r.depth; steps = suc r.steps; path = r.path })

-- a step before two ways that are both accepted
unfoldable pub joined : State → Price → Report → Price → Report → Report
joined s p r q r' = record {
  cycles = max (p.cycles + r.cycles) (q.cycles + r'.cycles);
  words = max (p.words + r.words) (q.words + r'.words);
  depth = max (height s) (max r.depth r'.depth);
  steps = suc (r.steps + r'.steps);
  path = worse (leb (p.cycles + r.cycles) (q.cycles + r'.cycles)) r.path r'.path;
}

unfoldable pub join : State → Price → Report → Price → Verdict → Verdict
join s p r q (refused x) = refused x
join s p r q (accepted r') = accepted (joined s p r q r')

-- of two ways the second is looked at only where the first is accepted, with what that left of the budget
unfoldable pub both_ways : State → Price → Verdict → Price → (ℕ → Verdict) → Verdict
both_ways s p (refused x) q v = refused x
both_ways s p (accepted r) q v = join s p r q (v r.steps)

next-verdict : (b : ℕ) (s : State) (p : Price) (t : Tree) → verdict (suc b) (next s p t) ≡ before s p (verdict b t)
unfolding verdict steps judge report cycles words depth size path before
next-verdict b s p t = go (split b (steps t) [])
  where
    go : Split b (steps t) [] → judge b (steps t) (report (next s p t)) ≡ before s p (judge b (steps t) (report t))
    go (fits spare e f g) = rw (f (report t), f (report (next s p t)))
    go (fails x f g) = rw (f (report t), f (report (next s p t)))

fork-verdict : (b : ℕ) (s : State) (p : Price) (t : Tree) (q : Price) (u : Tree) → verdict (suc b) (fork s p t q u) ≡ both_ways s p (verdict b t) q (λ k. verdict (b - k) u)
unfolding verdict steps judge report cycles words depth size path joined join both_ways
fork-verdict b s p t q u = go (split b (steps t) (steps u))
  where
    whole : Report
    whole = report (fork s p t q u)

    second : (k : ℕ) → Split k (steps u) [] → judge k (steps u) whole ≡ join s p (report t) q (judge k (steps u) (report u))
    second k (fits spare e f g) = rw (f whole, f (report u))
    second k (fails x f g) = rw (f whole, f (report u))

    go : Split b (steps t) (steps u) → judge b (steps t ++ steps u) whole ≡ both_ways s p (judge b (steps t) (report t)) q (λ k. judge (b - k) (steps u) (report u))
    go (fits spare e f g) =
        let h : b - size t ≡ spare = omega (arith, steps-size t) in
        rw (g whole, f (report t), h) (second spare (split spare (steps u) []))
    go (fails x f g) = rw (g whole, f (report t))

-- the equations
module _ (act : State → Try Next) where
  pub explore-spent : (o : ℕ) (s : State) → explore act o 0 s ≡ refused (Spent s.at)
  unfolding explore verdict tree steps judge address
  explore-spent o s = refl

  explored : (b o : ℕ) (s : State) {m : Try Next} → act s ≡ m → explore act o (suc b) s ≡ verdict (suc b) (expand (tree act b) o s m)
  unfolding explore tree
  explored b o s e = ap (λ m. verdict (suc b) (expand (tree act b) o s m)) e

  pub explore-stuck : (b o : ℕ) (s : State) → act s ≡ stuck → explore act o (suc b) s ≡ refused (Stuck s.at)
  unfolding expand verdict steps judge refusal
  explore-stuck b o s e = explored b o s e

  pub explore-stops : (b o : ℕ) (s : State) (p : Price) → act s ≡ done (stops p) →
      explore act o (suc b) s ≡ accepted (record { cycles = p.cycles; words = p.words; depth = height s; steps = 1; path = [] })
  unfolding expand verdict steps judge report cycles words depth size path
  explore-stops b o s p e = explored b o s e

  pub explore-goes : (b o : ℕ) (s t : State) (p : Price) → act s ≡ done (goes p t) → explore act o (suc b) s ≡ before s p (explore act o b t)
  unfolding expand explore
  explore-goes b o s t p e = explored b o s e ∙ next-verdict b s p (tree act b o t)

  pub explore-over : (b : ℕ) (s t u : State) (p q : Price) → act s ≡ done (opens p t q u) → explore act 0 (suc b) s ≡ refused (Openings s.at)
  unfolding expand verdict steps judge refusal
  explore-over b s t u p q e = explored b 0 s e

  pub explore-opens : (b o : ℕ) (s t u : State) (p q : Price) → act s ≡ done (opens p t q u) →
      explore act (suc o) (suc b) s ≡ both_ways s p (explore act o b t) q (λ k. explore act o (b - k) u)
  unfolding expand explore
  explore-opens b o s t u p q e =
      explored b (suc o) s e ∙ fork-verdict b s p (tree act b o t) q (tree act b o u)
      ∙ ap (both_ways s p (verdict b (tree act b o t)) q) (fun_ext (λ k. verdict-fuel act (b - k) b o u (omega arith)))
