-- What the internal functions are handed, and what a step by value stands for.
use Rattle.std.specs.Prelude.{◌≤◌, ◌≡◌}
use Rattle.refusals.specs.Library.{ℕ, suc, ℤ, length, true, false, List}
use Rattle.bound_theory.specs.Terms.{Run, Cell, Code}
use Rattle.machine_state.specs.HeldState.{WellFormed}
use Rattle.machine_state.specs.declared.State as states
use Rattle.bound_theory.specs.Run.{once}
use Rattle.answers.specs.Answers.{Answer, reported}
use Rattle.file_reader.specs.declared.Routine.{Routine}
use Rattle.file_entry.specs.Held.{routine_in}
use Rattle.replay_trace.specs.Traces.{Entry}
use Rattle.replay_steps.specs.Replay.{is_going, step_cost}
use Rattle.replay_steps.specs.Held.{Stands}
use Rattle.trace_theory.specs.Trace.{trace}
use Rattle.trace_entry.specs.declared.Recorded.{Recorded}

-- h says of each run that stands there whether it makes a step more, and if so what that step costs, and stands for the run after it
pub record Records (c : Code) (ns : List ℕ) (answers : List ℤ) (taken : ℕ) (state : states.State) (blocks : List Cell) (h : Recorded) : Type 0 where
  pub makes : (r : Run) → Stands ns answers taken state blocks false r → h.made ≡ is_going c r
  pub costs : (r : Run) → Stands ns answers taken state blocks false r → h.made ≡ true → h.cycles ≡ step_cost c r
  pub goes_on : (r : Run) → Stands ns answers taken state blocks false r → h.made ≡ true → Stands ns answers h.taken h.state h.blocks h.stopped (once c r)
  pub formed : WellFormed h.state
  pub few : h.taken ≤ suc taken

-- a recorded step by its two numbers
abbrev pub entry_of : ℕ → ℕ → Entry
entry_of at cycles = record { at = at; cycles = cycles }

-- the steps of the run of the routine that the code's arrays hold
abbrev pub trace_in : Routine → List Entry
trace_in x = let y = routine_in x in trace y.code y.budget y.start y.answers

-- an answer with a trace, if it is one, has room in n bytes
abbrev pub Roomy : Answer → ℕ → Type 0
Roomy a n = (bs : List ℕ) → a ≡ reported bs → length bs ≤ n
