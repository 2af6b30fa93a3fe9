-- What is asked of the run, and what is promised of it.
use Rattle.refusals.specs.declared.Refusal.{Refusal}
use Rattle.std.specs.Prelude.{◌≤◌, ◌≡◌, Err, Ok, Result, ⊤}
use Rattle.refusals.specs.Library.{ℕ, ℤ, List, []}
use Rattle.bound_theory.specs.Terms.{Report, Verdict, accepted, refused, bound, Run, begin, Allowed, State, Code, Cellwise}
use Rattle.machine_state.specs.HeldState.{WellFormed}
use Rattle.machine_state.specs.declared.State as states
use Rattle.bound_theory.specs.Promises.{NoGreater, Safe}
use Rattle.run_loop.specs.declared.Ran.{Ran}

-- what is asked: the state and the number of steps within their limits
pub record Runnable (start : states.State) (n : ℕ) : Type 0 where
  pub formed : WellFormed start
  pub steps : n ≤ 1000000

-- the verdict of a case, with the figures of r where it is accepted
unfoldable pub judged : Result ⊤ Refusal → Ran → Verdict
judged (Ok tt) r = accepted (record { cycles = r.cycles; words = r.words; depth = r.depth; steps = r.steps; path = [] })
judged (Err x) r = refused x

-- the verdict on a run
unfoldable pub verdict_of : Ran → Verdict
verdict_of r = judged r.verdict r

-- Demand 3, of the run r that n steps from s have made with the answers: under every bound that accepts a start which allows s
abbrev pub SafeFrom : Code → State → List ℤ → ℕ → Run → Type 0
SafeFrom c s answers n r =
    (budget : ℕ) (t : State) (q : Report) → bound c budget t ≡ accepted q → Cellwise Allowed s t → Safe c (bound c budget) q (begin s answers) n r

-- where the bound accepts a start that allows s, the verdict v is accepted, with no figure greater
abbrev pub WithinBound : Code → ℕ → State → Verdict → Type 0
WithinBound c budget s v =
    (t : State) (q : Report) → bound c budget t ≡ accepted q → Cellwise Allowed s t → (p : Report) × (v ≡ accepted p) × NoGreater p q
