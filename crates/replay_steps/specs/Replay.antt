-- The replay of a card's trace on the plain machine. (document 02, §4)
use Rattle.std.specs.Prelude.{◌-◌, ◌&&◌, ◌∷◌}
use Rattle.refusals.specs.Library.{ℕ, suc, eqb, leb, ℤ, Bool, cond, not, List, []}
use Rattle.machine.specs.Machine.{State, Code}
use Rattle.bound_theory.specs.Run.{Run, begin, run_is_stuck, once}
use Rattle.replay_trace.specs.Traces.{Entry}

-- the run makes a step more: "A line after STOP differs, and so does a line where the machine is stuck."
unfoldable pub is_going : Code → Run → Bool
is_going c r = not r.stopped && not (run_is_stuck c r)

-- "what that step costs, primitive and jump included"
unfoldable pub step_cost : Code → Run → ℕ
step_cost c r = (once c r).cycles - r.cycles

-- whether a line agrees with the step that the run is at: neither its "address differs from the machine's" nor its "cycles exceed what
-- that step costs"
unfoldable pub agrees : Code → Run → Entry → Bool
agrees c r e = is_going c r && eqb r.state.at e.at && leb e.cycles (step_cost c r)

-- "names the first trace line [that differs] or says that the trace agrees up to its end"
pub data Outcome : Type 0 where
  agreed : Outcome
  differed : ℕ → Outcome

-- the lines from number n on, the first of which is held against the step that the run is at
unfoldable pub replay_from : Code → ℕ → Run → List Entry → Outcome
replay_from c n r [] = agreed
replay_from c n r (e ∷ es) = cond (agrees c r e) (replay_from c (suc n) (once c r) es) (differed n)

-- the lines after the names line, from the start
unfoldable pub replay : Code → State → List ℤ → List Entry → Outcome
replay c s answers es = replay_from c 2 (begin s answers) es
