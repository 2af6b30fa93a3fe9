-- What is promised of the bound and of the run, as statements. The file Theorems of the crate `theorems` proves each by its name.
use Rattle.std.specs.Prelude.{◌+◌, ◌≤◌, ◌<◌, ◌↔◌, ◌≡◌}
use Rattle.refusals.specs.Library.{ℕ, suc, ℤ, length, true, false, List}
use Rattle.bound_theory.specs.Terms.{Refusal, Stuck, Spent, Report, Verdict, accepted, refused, bound, opening_limit, Move, cost, word_sum, Transition, CostMax, Run}
use Rattle.bound_theory.specs.Terms.{begin, after, run, run_is_stuck, Try, done, Cell, unknown, Allowed, Refines, nth, State, Code, Next, step, height, Cellwise}
use Rattle.bound_theory.specs.Terms.{Forward}
use Rattle.bound_theory.specs.Tree.{tree, steps, levels, verdict}
use Rattle.bound_theory.specs.Traces.{decisions, Trace, Path, RunMax, Finite, Listed}
use Rattle.bound_theory.specs.Run.{bounded_afresh, DeterministicTrace}

-- no figure of the first report is greater than that of the second
pub record NoGreater (less more : Report) : Type 0 where
  pub cycles : less.cycles ≤ more.cycles
  pub words : less.words ≤ more.words
  pub depth : less.depth ≤ more.depth
  pub steps : less.steps ≤ more.steps

-- Demand 3, of the run that so many steps from the start have made, under what the bound has reported
pub record Safe (code : Code) (bounding : State → Verdict) (reported : Report) (start : Run) (made : ℕ) (run : Run) : Type 0 where
  -- it is not stuck, its stack has nowhere been deeper than reported: by what the run remembers, and in each state up to this one
  pub moves : run_is_stuck code run ≡ false
  pub depth : run.depth ≤ reported.depth
  pub heights : (k : ℕ) → k ≤ made → height (after code k start).state ≤ reported.depth
  pub steps : run.steps ≤ reported.steps
  -- bounding it afresh from the state reached, under the same budget, is never refused; after STOP nothing is left to bound
  pub fresh : Report
  pub accepts : bounded_afresh bounding run.stopped run.state ≡ accepted fresh
  -- The cycles spent plus those bounded afresh are at most the reported cycles, and the same for words
  pub cycles : run.cycles + fresh.cycles ≤ reported.cycles
  pub words : run.words + fresh.words ≤ reported.words
  -- Every such run makes its STOP within the reported steps.
  pub stops : reported.steps ≤ made → run.stopped ≡ true

-- Demand 3, whole: for every start that t allows, every list of answers and every number of steps
abbrev pub Interruptible : Code → (State → Verdict) → Type 0
Interruptible c M =
    (t : State) (q : Report) → M t ≡ accepted q →
    (s : State) → Cellwise Allowed s t → (answers : List ℤ) (n : ℕ) → Safe c M q (begin s answers) n (after c n (begin s answers))

-- so of the first bound, with any budget
abbrev pub BoundInterruptible : Type 0
BoundInterruptible = (c : Code) (budget : ℕ) → Interruptible c (bound c budget)

-- "STOP is a step, and none follows it: a larger number of steps gives the same state and sums."
abbrev pub NothingFollows : Type 0
NothingFollows = (c : Code) (n : ℕ) (r : Run) → r.stopped ≡ true → after c n r ≡ r

-- a run at the end of a trace
pub record Ended (trace : List Move) (run : Run) : Type 0 where
  pub stopped : run.stopped ≡ true
  pub cycles : run.cycles ≡ cost trace
  pub words : run.words ≡ word_sum trace
  pub steps : run.steps ≡ length trace

-- The run and Definition 2 of document 000: "the corresponding execution trace is unique"; the run goes by its states and makes as many
-- steps as it has, and has then spent what it costs; and a run that makes its STOP has one
abbrev pub RunsTrace : Type 0
RunsTrace =
    (c : Code) (s : State) (answers : List ℤ) →
    ((xs ys : List Move) → DeterministicTrace c s answers xs → DeterministicTrace c s answers ys → xs ≡ ys)
    × ((trace : List Move) → DeterministicTrace c s answers trace → (k : ℕ) (m : Move) → nth k trace ≡ done m → (after c k (begin s answers)).state ≡ m.state)
    × ((trace : List Move) → DeterministicTrace c s answers trace → (n : ℕ) → length trace ≤ n → Ended trace (after c n (begin s answers)))
    × ((n : ℕ) → (after c n (begin s answers)).stopped ≡ true → (trace : List Move) × DeterministicTrace c s answers trace × (length trace ≤ n))

-- Theorem 14 of document 000: the maximum cost from an erasure of the start is at least the cost of the deterministic trace
abbrev pub Theorem14 : Type 0
Theorem14 =
    (c : Code) (s : State) (answers : List ℤ) (trace : List Move) → DeterministicTrace c s answers trace →
    (t : State) → Cellwise Refines s t → (k : ℕ) → CostMax (step c unknown) t k → cost trace ≤ k

-- knowing more never costs more, of a bound M
abbrev pub Monotone : (State → Verdict) → Type 0
Monotone M = (t : State) (q : Report) → M t ≡ accepted q → (s : State) → Cellwise Refines s t → (r : Report) × (M s ≡ accepted r) × NoGreater r q

-- a number is the value of f on some path, and no path has a larger one
pub record LargestOver (IsPath : List Move → Type 0) (f : List Move → ℕ) (largest : ℕ) : Type 0 where
  pub witness : List Move
  pub path : IsPath witness
  pub attains : f witness ≡ largest
  pub most : (moves : List Move) → IsPath moves → f moves ≤ largest

-- a number is the height of some state that a trace reaches from the start, and no trace reaches a higher one
pub record LargestHeight (act : State → Try Next) (start : State) (largest : ℕ) : Type 0 where
  pub deepest : State
  pub trace : List Move
  pub reached : Trace act start trace deepest
  pub attains : height deepest ≡ largest
  pub most : (moves : List Move) (end : State) → Trace act start moves end → height end ≤ largest

-- Demand 2, of what the bound reports from a start, with so many openings on a path
pub record Exact (code : Code) (openings : ℕ) (start : State) (reported : Report) : Type 0 where
  -- CYCLES is the maximum cost, and the cost of a path, and no path costs more
  pub cycles : CostMax (step code unknown) start reported.cycles
  pub costliest : LargestOver (Path (step code unknown) start) cost reported.cycles
  -- PATH is the decisions of the maximum trace, whose cost is CYCLES (Lemma 12)
  pub trace : List Move
  pub worst : RunMax (step code unknown) start trace
  pub lemma12 : cost trace ≡ reported.cycles
  pub path : decisions trace ≡ reported.path
  -- WORDS is the largest word sum over all paths
  pub words : LargestOver (Path (step code unknown) start) word_sum reported.words
  -- DEPTH is the largest height over all states reached
  pub depth : LargestHeight (step code unknown) start reported.depth
  -- STEPS is the number of steps of the tree
  pub steps : Finite (step code unknown) openings start reported.steps

-- Demand 2, whole: every report of the bound is exact
abbrev pub BoundExact : Type 0
BoundExact = (c : Code) (budget : ℕ) (s : State) (q : Report) → bound c budget s ≡ accepted q → Exact c opening_limit s q

-- STEPS is the number of steps listed in depth-first order
abbrev pub StepsListed : Type 0
StepsListed = (c : Code) (budget : ℕ) (s : State) (q : Report) → bound c budget s ≡ accepted q → length (steps (tree (step c unknown) budget opening_limit s)) ≡ q.steps

-- both relations have one value
abbrev pub OneMaximum : Type 0
OneMaximum =
    (c : Code) (s : State) →
    ((k l : ℕ) → CostMax (step c unknown) s k → CostMax (step c unknown) s l → k ≡ l)
    × ((xs ys : List Move) → RunMax (step c unknown) s xs → RunMax (step c unknown) s ys → xs ≡ ys)

-- demand 2: a routine is refused in the listed cases and in no other
abbrev pub AcceptedWhere : Type 0
AcceptedWhere =
    (c : Code) (budget : ℕ) (s : State) →
    ((q : Report) × (bound c budget s ≡ accepted q)) ↔ ((n : ℕ) × Finite (step c unknown) opening_limit s n × (n ≤ budget))

-- and each refusal is the case listed for it
abbrev pub RefusedWhere : Type 0
RefusedWhere = (c : Code) (budget : ℕ) (s : State) (r : Refusal) → (bound c budget s ≡ refused r) ↔ Listed (step c unknown) opening_limit budget s r

-- of a run: 7 where a step among the first BUDGET is stuck; 9 where BUDGET steps are made and STOP is none of them; else it is accepted
abbrev pub RunRefusedWhere : Type 0
RunRefusedWhere =
    (c : Code) (budget : ℕ) (s : State) (answers : List ℤ) →
    ((a : ℕ) → (run c budget s answers ≡ refused (Stuck a)) ↔ ((k : ℕ) × (k < budget) × (run_is_stuck c (after c k (begin s answers)) ≡ true) × ((after c k (begin s answers)).state.at ≡ a)))
    × ((a : ℕ) → (run c budget s answers ≡ refused (Spent a)) ↔ (((after c budget (begin s answers)).steps ≡ budget) × ((after c budget (begin s answers)).stopped ≡ false) × ((after c budget (begin s answers)).state.at ≡ a)))
    × (((q : Report) × (run c budget s answers ≡ accepted q)) ↔ ((after c budget (begin s answers)).stopped ≡ true))

-- where the tree is cut off does not matter
abbrev pub FuelIrrelevant : Type 0
FuelIrrelevant = (c : Code) (budget fuel : ℕ) (s : State) → budget ≤ fuel → verdict budget (tree (step c unknown) fuel opening_limit s) ≡ bound c budget s

-- two starts of one code, the first plain and allowed by the second: where the bound accepts the second, the run of the first under the
-- same BUDGET, with any answers, is refused by neither 7 nor 9 and is within the report's four figures
abbrev pub RunWithinBound : Type 0
RunWithinBound =
    (c : Code) (budget : ℕ) (t : State) (q : Report) → bound c budget t ≡ accepted q →
    (s : State) → Cellwise Allowed s t → (answers : List ℤ) → (r : Report) × (run c budget s answers ≡ accepted r) × NoGreater r q

-- what holds of code without jumps backwards (document 02 §8), which has n lines
pub record SinglePass (c : Code) (n : ℕ) : Type 0 where
  -- every step that goes on leads to a higher address
  pub rises : (r : Cell) (s : State) (m : Move) (t : State) → Transition (step c r) s m t → s.at < t.at
  -- a run makes at most n steps, however many are asked for
  pub steps : (s : State) (answers : List ℤ) (k : ℕ) → (after c k (begin s answers)).steps ≤ n
  -- a trace has at most n moves: the deterministic one (Definition 2), a nondeterministic one (Definition 7), and one that ends in STOP
  pub deterministic : (s : State) (answers : List ℤ) (trace : List Move) → DeterministicTrace c s answers trace → length trace ≤ n
  pub trace : (r : Cell) (s : State) (moves : List Move) (t : State) → Trace (step c r) s moves t → length moves ≤ n
  pub path : (r : Cell) (s : State) (moves : List Move) → Path (step c r) s moves → length moves ≤ n
  -- the tree, with a step that is not made, is at most n + 1 high, wherever it is cut off and with any number of openings
  pub tree : (r : Cell) (fuel openings : ℕ) (s : State) → levels (tree (step c r) fuel openings s) ≤ suc n

-- so of all such code
abbrev pub ForwardOnce : Type 0
ForwardOnce = (c : Code) → Forward c → SinglePass c (length c.instructions)
