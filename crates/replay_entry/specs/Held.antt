-- What the internal functions are handed.
use Rattle.refusals.specs.Library.{ℕ, List}
use Rattle.machine_state.specs.HeldProgram.{program_of, sizes_of}
use Rattle.machine_state.specs.HeldState.{whole}
use Rattle.file_reader.specs.declared.Routine.{Routine}
use Rattle.file_reader.specs.HeldRoutine.{answers}
use Rattle.replay_trace.specs.Traces.{entries}
use Rattle.replay_steps.specs.Replay.{Outcome, replay}

-- what the replay of a trace says of the routine that the code's arrays hold
abbrev pub outcome_in : Routine → List ℕ → Outcome
outcome_in x trace =
    replay (program_of x.code) (whole (sizes_of x.code) x.blocks x.start) (answers x) (entries trace)
