-- The run of code at other addresses: the same, at addresses that are higher by f. Assumes nothing.
use Prim.Native.Nat.{ℕ, zero, suc, ◌+◌}
use mathlib.Core.Path.{◌≡◌, refl, ap, ap₂, ◌∙◌}
use mathlib.Core.Bool.{Bool, true, false, cond}
use mathlib.Core.List.{List, []}
use lib.Dec.{ltb}
use lib.IntN.{ℤ}
use Rattle.refusals.specs.declared.Refusal.TheVariants.{Stuck, Spent}
use Rattle.cells.specs.Try.{Try, stuck, done}
use Rattle.machine.specs.Machine.{State, Next, stops, goes, opens, Code, height, jump, takes_answer}
use Rattle.bound_theory.specs.Tree.{Report, accepted, refused}
use Rattle.bound_theory.specs.Run.{Run, begin, answer, remaining, moved, leads, once, after, judge_run, run}
use Rattle.relocation_theory.specs.Raised.{raise_code, raise_state, raise_refusal, raise_verdict}
use Rattle.relocation_theory.proofs.StepLaws.{map_try, raise_next, step-raised, takes-raised}

-- a run at another address
unfoldable raise_run : ℕ → Run → Run
raise_run f r = record { state = raise_state f r.state; answers = r.answers; cycles = r.cycles; words = r.words; depth = r.depth; steps = r.steps; stopped = r.stopped }

module _ (f : ℕ) where
  moved-raised : (r : Run) (rest : List ℤ) (b : Bool) (m : Try Next) → moved (raise_run f r) rest b (map_try (raise_next f) m) ≡ raise_run f (moved r rest b m)
  unfolding moved raise_run map_try raise_next raise_state jump height
  moved-raised r rest true m = refl
  moved-raised r rest false stuck = refl
  moved-raised r rest false (done (stops p)) = refl
  moved-raised r rest false (done (goes p t)) = refl
  moved-raised r rest false (done (opens p t q u)) = refl

  module _ (c : Code) where
    once-raised : (r : Run) → once (raise_code f c) (raise_run f r) ≡ raise_run f (once c r)
    unfolding once leads raise_run
    once-raised r =
        ap₂ (λ b m. moved (raise_run f r) (remaining b r.answers) r.stopped m) (takes-raised f c r.state) (step-raised f c (answer r.answers) r.state)
        ∙ moved-raised r (remaining (takes_answer c r.state) r.answers) r.stopped (leads c r)

    after-raised : (n : ℕ) (r : Run) → after (raise_code f c) n (raise_run f r) ≡ raise_run f (after c n r)
    unfolding after
    after-raised zero r = refl
    after-raised (suc n) r = ap (once (raise_code f c)) (after-raised n r) ∙ once-raised (after c n r)

  judged-raised : (budget : ℕ) (r : Run) → judge_run budget (raise_run f r) ≡ raise_verdict f (judge_run budget r)
  unfolding judge_run raise_run raise_state jump raise_verdict raise_refusal
  judged-raised budget r = go (record { cycles = r.cycles; words = r.words; depth = r.depth; steps = r.steps; path = [] }) r.stopped (ltb r.steps budget)
    where
      go : (q : Report) (b d : Bool) → cond b (accepted q) (refused (cond d (Stuck (r.state.at + f)) (Spent (r.state.at + f)))) ≡ raise_verdict f (cond b (accepted q) (refused (cond d (Stuck r.state.at) (Spent r.state.at))))
      go q true d = refl
      go q false true = refl
      go q false false = refl

  pub run-is-raised : (c : Code) (budget : ℕ) (s : State) (answers : List ℤ) → run (raise_code f c) budget (raise_state f s) answers ≡ raise_verdict f (run c budget s answers)
  unfolding run begin raise_run raise_state jump height
  run-is-raised c budget s answers = ap (judge_run budget) (after-raised c budget (begin s answers)) ∙ judged-raised budget (after c budget (begin s answers))
