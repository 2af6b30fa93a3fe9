-- The trace of a run: what a card would record of it. (docs/ROUTINE-FILE.md, The trace of a run)
use Rattle.std.specs.Prelude.{◌∷◌, ◌++◌}
use Rattle.refusals.specs.Library.{ℕ, zero, suc, ℤ, cond, List, []}
use Rattle.file_format.specs.Terms.{bytes, decimal}
use Rattle.machine.specs.Machine.{State, Code}
use Rattle.bound_theory.specs.Run.{Run, begin, once}
use Rattle.replay_trace.specs.Traces.{Entry}
use Rattle.replay_steps.specs.Replay.{is_going, step_cost}

-- the step that the run is at, as it is recorded: its address, and its cost (primitive and taken jump included)
abbrev pub recorded : Code → Run → Entry
recorded c r = record { at = r.state.at; cycles = step_cost c r }

-- one for each step, of the next n steps at most: a run that is stuck makes none, and STOP is the last
unfoldable pub recording : Code → ℕ → Run → List Entry
recording c zero r = []
recording c (suc n) r = cond (is_going c r) (recorded c r ∷ recording c n (once c r)) []

-- of the run of BUDGET steps from s
unfoldable pub trace : Code → ℕ → State → List ℤ → List Entry
trace c budget s answers = recording c budget (begin s answers)

-- a recorded step is a line: two numbers parted by one space
unfoldable pub entry_text : Entry → List ℕ
entry_text e = decimal e.at ++ bytes " " ++ decimal e.cycles ++ bytes "\n"

-- the lines of several, in their order
unfoldable pub entries_text : List Entry → List ℕ
entries_text [] = []
entries_text (e ∷ es) = entry_text e ++ entries_text es

-- lines under `AT CYCLES`
abbrev pub trace_names : List ℕ
trace_names = bytes "AT CYCLES\n"

-- the text of a trace
unfoldable pub trace_text : List Entry → List ℕ
trace_text es = trace_names ++ entries_text es
