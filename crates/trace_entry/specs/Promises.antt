-- What is promised of the bytes of a trace, as statements. The contract of `trace` has the first, and `proofs/Theorems` proves the others by
-- their names.
use Rattle.std.specs.Prelude.{◌≤◌, ◌≡◌}
use Rattle.refusals.specs.Library.{ℕ, List}
use Rattle.bound_theory.specs.Terms.{Report, accepted, run}
use Rattle.answers.specs.Terms.{Routine, routine, read_run, reported, memory_limit, bytes}
use Rattle.replay_trace.specs.Traces.{entries}
use Rattle.replay_entry.specs.Answers.{replay_answer}
use Rattle.trace_theory.specs.Trace.{trace, trace_text}
use Rattle.trace_theory.specs.Promises.{Adds}
use Rattle.trace_entry.specs.Answers.{trace_answer}

-- the bytes are the trace of the run of the routine x that the text holds, with the figures q of that run
pub record Traced (text bs : List ℕ) (x : Routine) (q : Report) : Type 0 where
  pub reads : read_run text ≡ routine x
  pub accepts : run x.code x.budget x.start x.answers ≡ accepted q
  pub prints : bs ≡ trace_text (trace x.code x.budget x.start x.answers)
  -- a trace in the card's form, its lines are the steps of the run
  pub records : entries bs ≡ trace x.code x.budget x.start x.answers
  -- replaying it against the file says AGREES, with any memory lent that a replay asks for
  pub agrees : (n : ℕ) → memory_limit ≤ n → replay_answer text bs n ≡ reported (bytes "AGREES\n")
  -- its cycles add up to the run's CYCLES, it has STEPS lines, and STOP is the last
  pub adds : Adds x.code x.start x.answers (entries bs) q

-- so of every trace
abbrev pub TracesRun : List ℕ → List ℕ → Type 0
TracesRun text bs = (x : Routine) × (q : Report) × Traced text bs x q

-- whatever the text
abbrev pub TracesKept : Type 0
TracesKept = (text : List ℕ) (n : ℕ) (bs : List ℕ) → trace_answer text n ≡ reported bs → TracesRun text bs
