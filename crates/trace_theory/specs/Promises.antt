-- What the trace of a run says, as statements. `proofs/Theorems` proves each by its name.
use Rattle.std.specs.Prelude.{◌≡◌}
use Rattle.refusals.specs.Library.{ℕ, ℤ, length, true, List}
use Rattle.bound_theory.specs.Terms.{Report, accepted, begin, after, run, State, Code}
use Rattle.replay_trace.specs.Traces.{Entry}
use Rattle.replay_steps.specs.Replay.{agreed, replay}
use Rattle.replay_steps.specs.Promises.{spent}
use Rattle.trace_theory.specs.Trace.{trace}

-- replaying it against the file says AGREES: of every run, also of one that is refused
abbrev pub TraceAgrees : Type 0
TraceAgrees = (c : Code) (budget : ℕ) (s : State) (answers : List ℤ) → replay c s answers (trace c budget s answers) ≡ agreed

-- of the steps of a run with the figures q: its cycles add up to the run's CYCLES, it has STEPS lines, and the last is STOP, for the run
-- has stopped after as many steps
pub record Adds (c : Code) (s : State) (answers : List ℤ) (es : List Entry) (q : Report) : Type 0 where
  pub cycles : spent es ≡ q.cycles
  pub steps : length es ≡ q.steps
  pub stops : (after c (length es) (begin s answers)).stopped ≡ true

-- so of every run that is accepted
abbrev pub TraceAdds : Type 0
TraceAdds =
    (c : Code) (budget : ℕ) (s : State) (answers : List ℤ) (q : Report) → run c budget s answers ≡ accepted q → Adds c s answers (trace c budget s answers) q
