-- What is promised of what a replay prints, in terms of both texts. `proofs/Theorems` proves it by its name. (document 02 §4)
use Rattle.std.specs.Prelude.{◌+◌, ◌≤◌, ◌<◌, ◌++◌, ◌≡◌}
use Rattle.refusals.specs.Library.{ℕ, length, take, List}
use Rattle.bound_theory.specs.Terms.{Report, accepted, bound, begin, after, Allowed, State, Cellwise}
use Rattle.answers.specs.Terms.{Routine, read_run, reported, bytes, decimal}
use Rattle.merge_theory.specs.Merge.{merged}
use Rattle.file_format.specs.Routine as readings
use Rattle.replay_trace.specs.Traces.{Entry, entries}
use Rattle.replay_steps.specs.Promises.{Agrees, FirstDiffers, spent}
use Rattle.replay_entry.specs.Answers.{replay_answer}

-- what holds of the steps es that a trace records where it agrees with the run of the routine x
pub record KeepsTo (x : Routine) (es : List Entry) : Type 0 where
  -- every line is the run's own step, at no more than it costs
  pub every : (k : ℕ) → k < length es → Agrees x.code x.start x.answers es k
  -- "A trace that agrees has spent no more than the run has at that step."
  pub within : (k : ℕ) → k ≤ length es → spent (take k es) ≤ (after x.code k (begin x.start x.answers)).cycles
  -- with demand 3: nor more than the CYCLES of either bound of a start that allows this one
  pub bounded : (budget : ℕ) (t : State) (q : Report) → bound x.code budget t ≡ accepted q → Cellwise Allowed x.start t → spent es ≤ q.cycles
  pub passed : (t : State) (q : Report) → merged x.code t ≡ accepted q → Cellwise Allowed x.start t → spent es ≤ q.cycles

-- of the bytes that are printed for a routine file and a trace
pub record ReplayKept (text trace printed : List ℕ) : Type 0 where
  pub routine : Routine
  pub reads : read_run text ≡ readings.routine routine
  pub agrees : printed ≡ bytes "AGREES\n" → KeepsTo routine (entries trace)
  -- line n is the first that does not agree; the names line is line 1
  pub differs : (n : ℕ) → printed ≡ bytes "DIFFERS " ++ decimal n ++ bytes "\n" →
      (k : ℕ) × (n ≡ k + 2) × FirstDiffers routine.code routine.start routine.answers (entries trace) k

-- of all texts
abbrev pub ReplaysKept : Type 0
ReplaysKept = (text trace : List ℕ) (n : ℕ) (printed : List ℕ) → replay_answer text trace n ≡ reported printed → ReplayKept text trace printed
