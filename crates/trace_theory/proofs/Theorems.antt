-- The statements of `specs/Promises`, each proved by its name. Assumes nothing.
use Prim.Native.Nat.{ℕ}
use mathlib.Core.Path.{◌≡◌, refl, ap, sym, ◌∙◌}
use mathlib.Core.Bool.{Bool, true, false}
use native.Mathlib.Omega.{arith}
use Rattle.bound_theory.specs.Tree.{Report, accepted}
use Rattle.bound_theory.specs.Run.{Run, begin, judge_run, run}
use Rattle.replay_steps.specs.Replay.{replay}
use Rattle.trace_theory.specs.Trace.{trace}
use Rattle.trace_theory.specs.Promises.{TraceAgrees, TraceAdds}
use Rattle.trace_theory.proofs.RecordingLaws.{recording-agrees, recording-sums}

pub trace-agrees : TraceAgrees
unfolding replay trace
trace-agrees c budget s answers = recording-agrees c 2 budget (begin s answers)

-- the figures of a run that is accepted
record Judged (r : Run) (q : Report) : Type 0 where
  cycles : r.cycles ≡ q.cycles
  steps : r.steps ≡ q.steps
  stopped : r.stopped ≡ true

judged : (budget : ℕ) (r : Run) (q : Report) → judge_run budget r ≡ accepted q → Judged r q
unfolding judge_run
judged budget r q = go r.stopped refl
  where
    go : (b : Bool) → r.stopped ≡ b → judge_run budget r ≡ accepted q → Judged r q
    go true h e = record { cycles = cc; steps = cc; stopped = h }
    go false h e = let z : ◌≡◌ {A = ℕ} 0 1 = cc in absurd (omega arith)

pub trace-adds : TraceAdds
unfolding run trace begin
trace-adds c budget s answers q e =
    let j = judged budget _ q e in
    let t = recording-sums c budget (begin s answers) in
    record {
      cycles = omega (arith, t.cycles, j.cycles);
      steps = omega (arith, t.steps, j.steps);
      stops = ap (λ (r : Run). r.stopped) (sym t.all) ∙ j.stopped;
    }
