-- What a run so far stands for in code.
use Rattle.refusals.specs.Library.{ℕ, ℤ, drop, Bool, List}
use Rattle.bound_theory.specs.Terms.{Run, Cell}
use Rattle.machine_state.specs.declared.State.{State}
use Rattle.machine_state.specs.HeldState.{whole}
use Rattle.run_loop.specs.declared.Progress.{Progress}

-- the run, with blocks of the sizes ns, over the listed answers
unfoldable pub of_progress : List ℕ → List ℤ → Progress → Run
of_progress ns answers r = record {
  state = whole ns r.blocks r.state;
  answers = drop r.taken answers;
  cycles = r.cycles;
  words = r.words;
  depth = r.depth;
  steps = r.steps;
  stopped = r.stopped;
}

-- a run by its parts
abbrev pub so_far : State → List Cell → ℕ → ℕ → ℕ → ℕ → ℕ → Bool → Progress
so_far s fs a c w d n b = record { state = s; blocks = fs; taken = a; cycles = c; words = w; depth = d; steps = n; stopped = b }
