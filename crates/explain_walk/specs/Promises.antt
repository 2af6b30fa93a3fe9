-- What the walk along PATH is, as a statement. `proofs/Theorems` proves it by its name.
use Rattle.std.specs.Prelude.{◌≡◌}
use Rattle.refusals.specs.Library.{ℕ, suc, length, List}
use Rattle.bound_theory.specs.Terms.{Report, accepted, bound, Move, cost, Transition, done, unknown, nth, State, Code, step, Forward}
use Rattle.bound_theory.specs.Traces.{decisions, RunMax}
use Rattle.explain_walk.specs.Walk.{follow}

-- of the moves from a start, under what the bound reports of it
pub record WorstTrace (c : Code) (s : State) (q : Report) (moves : List Move) : Type 0 where
  -- they are the maximum trace of Definition 11
  pub worst : RunMax (step c unknown) s moves
  -- whose cost is CYCLES (Lemma 12)
  pub lemma12 : cost moves ≡ q.cycles
  -- and whose decisions are PATH
  pub path : decisions moves ≡ q.path
  -- the first is at the start, and each leads to the next by the step
  pub first : (m : Move) → nth 0 moves ≡ done m → m.state ≡ s
  pub leads : (k : ℕ) (m n : Move) → nth k moves ≡ done m → nth (suc k) moves ≡ done n → Transition (step c unknown) m.state m n.state

-- of code without jumps backwards, where the bound accepts
abbrev pub WalksWorst : Type 0
WalksWorst =
    (c : Code) → Forward c → (budget : ℕ) (s : State) (q : Report) → bound c budget s ≡ accepted q →
    WorstTrace c s q (follow (step c unknown) (length c.instructions) q.path s)
