-- The answer of a replay to a routine file, to a card's trace and to a length of lent report memory. (document 02, §4)
use Rattle.std.specs.Prelude.{◌++◌}
use Rattle.refusals.specs.Library.{ℕ, List}
use Rattle.answers.specs.Terms.{Routine, read_run, Answer, lending, of_reading, memory_limit, bytes, decimal}
use Rattle.answers.specs.Answers.{of_acceptance}
use Rattle.replay_trace.specs.Traces.{trace_acceptance, entries}
use Rattle.replay_steps.specs.Replay.{Outcome, agreed, differed, replay}

-- "It prints `DIFFERS` and that line's number, or `AGREES`."
unfoldable pub outcome_text : Outcome → List ℕ
outcome_text agreed = bytes "AGREES\n"
outcome_text (differed n) = bytes "DIFFERS " ++ decimal n ++ bytes "\n"

-- the answer for a routine: the trace's refusal, or what the replay says of its lines
unfoldable pub replay_routine : List ℕ → Routine → Answer
replay_routine trace x = of_acceptance (outcome_text (replay x.code x.start x.answers (entries trace))) (trace_acceptance trace)

-- the trace's refusals "are checked after the routine file's refusals, 11 included"
unfoldable pub replay_answer : List ℕ → List ℕ → ℕ → Answer
replay_answer text trace n = lending memory_limit n (of_reading (replay_routine trace) (read_run text))
