-- The address that refusal 7, 8 or 9 names: every address that the bound or the run comes to is one that steps lead to. Assumes nothing.
use mathlib.Core.Path.{◌≡◌, refl}
use mathlib.Core.Bool.{Bool, true, false, cond}
use mathlib.Core.List.{List}
use Prim.Native.Nat.{ℕ, zero, suc, ◌≤◌}
use native.Mathlib.Omega.{arith}
use lib.Dec.{ltb}
use lib.IntN.{ℤ}
use Rattle.refusals.specs.declared.Refusal.{Refusal}
use Rattle.refusals.specs.declared.Refusal.TheVariants.{Stuck, Spent}
use Rattle.refusals.specs.Refusals.{place}
use Rattle.cells.specs.Try.{Try, stuck, done}
use Rattle.cells.specs.Cells.{unknown}
use Rattle.machine.specs.Machine.{State, Next, stops, goes, opens, Code, step}
use Rattle.machine.proofs.LeadLaws.{Leads, goes-there, opens-there}
use Rattle.machine.proofs.AddressLaws.{Confined, AddressAtMost, step-at-most}
use Rattle.bound_theory.specs.Tree.{Report, accepted, refused, bound}
use Rattle.bound_theory.specs.Traces.{Comes, here, next, not_taken, taken, Listed, is_stuck, opens_too_many, is_spent}
use Rattle.bound_theory.specs.Run.{Run, begin, answer, moved, leads, once, after, judge_run, run}
use Rattle.bound_theory.proofs.PromiseLaws.{refused-where}

module _ (B : ℕ) (c : Code) (confined : Confined B c) where
  -- ---- the bound

  comes-at-most : {o k o' : ℕ} {s t : State} → AddressAtMost B s → Comes (step c unknown) o s k o' t → AddressAtMost B t
  comes-at-most h here = h
  comes-at-most h (next {s} e m) = comes-at-most (goes-there (step-at-most B c confined unknown s _ e)) m
  comes-at-most h (not_taken {s} e m) = comes-at-most (opens-there (step-at-most B c confined unknown s _ e)).0 m
  comes-at-most h (taken {s} e f m) = comes-at-most (opens-there (step-at-most B c confined unknown s _ e)).1 m

  listed-place : {o budget : ℕ} {s : State} {r : Refusal} → AddressAtMost B s → Listed (step c unknown) o budget s r → place r ≤ B
  unfolding place
  listed-place h (is_stuck m l e) = (comes-at-most h m).address
  listed-place h (opens_too_many m l e) = (comes-at-most h m).address
  listed-place h (is_spent m) = (comes-at-most h m).address

  pub bound-place : (budget : ℕ) (s : State) → s.at ≤ B → (r : Refusal) → bound c budget s ≡ refused r → place r ≤ B
  bound-place budget s h r e = listed-place (record { address = h }) ((refused-where c budget s r).0 e)

  -- ---- the run

  moved-at-most : (r : Run) (rest : List ℤ) (b : Bool) (m : Try Next) → ((n : Next) → m ≡ done n → Leads (AddressAtMost B) n) → AddressAtMost B r.state → AddressAtMost B (moved r rest b m).state
  unfolding moved
  moved-at-most r rest true m k h = h
  moved-at-most r rest false stuck k h = h
  moved-at-most r rest false (done (stops p)) k h = h
  moved-at-most r rest false (done (goes p t)) k h = goes-there (k (goes p t) refl)
  moved-at-most r rest false (done (opens p t q u)) k h = h

  after-at-most : (n : ℕ) (r : Run) → AddressAtMost B r.state → AddressAtMost B (after c n r).state
  unfolding after once leads
  after-at-most zero r h = h
  after-at-most (suc n) r h =
      let q = after c n r in
      moved-at-most q _ q.stopped (step c (answer q.answers) q.state) (λ m e. step-at-most B c confined (answer q.answers) q.state m e) (after-at-most n r h)

  judged-place : (budget : ℕ) (q : Run) → AddressAtMost B q.state → (r : Refusal) → judge_run budget q ≡ refused r → place r ≤ B
  unfolding judge_run place
  judged-place budget q h r e = go q.stopped (ltb q.steps budget) _ e
    where
      go : (b d : Bool) (p : Report) → cond b (accepted p) (refused (cond d (Stuck q.state.at) (Spent q.state.at))) ≡ refused r → place r ≤ B
      go true d p e = let z : ◌≡◌ {A = ℕ} 0 1 = cc in absurd (omega arith)
      go false true p e = let f : Stuck q.state.at ≡ r = cc in rw (← f) h.address
      go false false p e = let f : Spent q.state.at ≡ r = cc in rw (← f) h.address

  pub run-place : (budget : ℕ) (s : State) → s.at ≤ B → (answers : List ℤ) (r : Refusal) → run c budget s answers ≡ refused r → place r ≤ B
  unfolding run begin
  run-place budget s h answers r e = judged-place budget (after c budget (begin s answers)) (after-at-most budget (begin s answers) (record { address = h })) r e
