-- What the replay's values in code stand for.
use Rattle.std.specs.Prelude.{◌≤◌, ◌≡◌, None, Option, Some}
use Rattle.refusals.specs.Library.{ℕ, suc, ℤ, drop, Bool, true, false, List}
use Rattle.bound_theory.specs.Terms.{Run, Cell, Code}
use Rattle.machine_state.specs.HeldState.{WellFormed, whole}
use Rattle.machine_state.specs.declared.State as states
use Rattle.bound_theory.specs.Run.{once}
use Rattle.replay_steps.specs.declared.Held.{Held}
use Rattle.replay_steps.specs.Replay.{Outcome, agreed, differed, agrees}

-- the state, the blocks of the sizes ns, the answers taken and whether STOP was made are those of the run r over the listed answers
pub record Stands (ns : List ℕ) (answers : List ℤ) (taken : ℕ) (state : states.State) (blocks : List Cell) (stopped : Bool) (r : Run) : Type 0 where
  pub stands_at : r.state ≡ whole ns blocks state
  pub to_come : r.answers ≡ drop taken answers
  pub is_stopped : r.stopped ≡ stopped

-- h says of each run that stands there whether a line agrees with it, and if so stands for the run after that step
pub record Holds (c : Code) (ns : List ℕ) (answers : List ℤ) (taken : ℕ) (state : states.State) (blocks : List Cell) (at spent : ℕ) (h : Held) : Type 0 where
  pub says : (r : Run) → Stands ns answers taken state blocks false r → h.agrees ≡ agrees c r (record { at = at; cycles = spent })
  pub goes_on : (r : Run) → Stands ns answers taken state blocks false r → h.agrees ≡ true → Stands ns answers h.taken h.state h.blocks h.stopped (once c r)
  pub formed : WellFormed h.state
  pub few : h.taken ≤ suc taken

-- what a replay says
unfoldable pub of_replayed : Option ℕ → Outcome
of_replayed None = agreed
of_replayed (Some n) = differed n
