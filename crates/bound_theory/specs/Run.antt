-- A run of the plain machine. (document 01, Interrupted runs)
use Rattle.std.specs.Prelude.{◌+◌, ◌∷◌, ◌≡◌}
use Rattle.refusals.specs.Library.{ℕ, zero, suc, max, ltb, ℤ, pos, Bool, true, false, cond, List, []}
use Rattle.machine.specs.Terms.{Try, done, stuck, Cell, exactly, State, Code, Price, Next, stops, goes, opens, step, height}
use Rattle.refusals.specs.declared.Refusal.TheVariants.{Stuck, Spent}
use Rattle.machine.specs.Machine.{takes_answer}
use Rattle.bound_theory.specs.Tree.{Verdict, accepted, refused}
use Rattle.bound_theory.specs.Traces.{Move, move}

-- "A run of the plain machine has a state, the answers still to come and the cycles and words spent, and remembers whether STOP was
-- made"; with its largest height and its steps
pub record Run : Type 0 where
  pub state : State
  pub answers : List ℤ
  pub cycles : ℕ
  pub words : ℕ
  pub depth : ℕ
  pub steps : ℕ
  pub stopped : Bool

-- "It begins at the start address with nothing spent."
unfoldable pub begin : State → List ℤ → Run
begin s answers = record { state = s; answers = answers; cycles = 0; words = 0; depth = height s; steps = 0; stopped = false }

-- "the next listed answer in a run, 0 once the list is used up"
unfoldable pub answer : List ℤ → Cell
answer [] = exactly (pos 0)
answer (a ∷ rest) = exactly a

-- "A C_CALL takes the next answer off the list, if one is left."
unfoldable pub remaining : Bool → List ℤ → List ℤ
remaining true [] = []
remaining true (a ∷ rest) = rest
remaining false answers = answers

-- the run after a step that leads to the given and leaves the given answers: none follows STOP, a stuck one is not made, and a plain run
-- that met two ways would be stuck
unfoldable pub moved : Run → List ℤ → Bool → Try Next → Run
moved r rest true m = r
moved r rest false stuck = r
moved r rest false (done (stops p)) =
    record { state = r.state; answers = rest; cycles = r.cycles + p.cycles; words = r.words + p.words; depth = r.depth; steps = suc r.steps; stopped = true }
moved r rest false (done (goes p t)) =
    record { state = t; answers = rest; cycles = r.cycles + p.cycles; words = r.words + p.words; depth = max r.depth (height t); steps = suc r.steps; stopped = false }
moved r rest false (done (opens p t q u)) = r

-- the step that a run is at
unfoldable pub leads : Code → Run → Try Next
leads c r = step c (answer r.answers) r.state

-- "Each step takes the state and the answers that the last one left"
unfoldable pub once : Code → Run → Run
once c r = moved r (remaining (takes_answer c r.state) r.answers) r.stopped (leads c r)

-- the run after n steps
unfoldable pub after : Code → ℕ → Run → Run
after c zero r = r
after c (suc n) r = once c (after c n r)

-- "A run is stuck where its next step is"
unfoldable pub stuck_at : Bool → Try Next → Bool
stuck_at true m = false
stuck_at false stuck = true
stuck_at false (done (stops p)) = false
stuck_at false (done (goes p t)) = false
stuck_at false (done (opens p t q u)) = true

-- the same of a run, which is not stuck after STOP
unfoldable pub run_is_stuck : Code → Run → Bool
run_is_stuck c r = stuck_at r.stopped (leads c r)

-- "Bounded afresh", by the bound M, from the state s that a run has reached: "After STOP it is 0 cycles and 0 words."
unfoldable pub bounded_afresh : (State → Verdict) → Bool → State → Verdict
bounded_afresh M true s = accepted (record { cycles = 0; words = 0; depth = 0; steps = 0; path = [] })
bounded_afresh M false s = M s

-- the verdict on the run that BUDGET steps leave: the four figures once STOP is made; else its next step is not made, refusal 7 if that
-- is one of the first BUDGET steps, 9 if it is step BUDGET + 1
unfoldable pub judge_run : ℕ → Run → Verdict
judge_run budget r =
    cond r.stopped (accepted (record { cycles = r.cycles; words = r.words; depth = r.depth; steps = r.steps; path = [] }))
    (refused (cond (ltb r.steps budget) (Stuck r.state.at) (Spent r.state.at)))

-- the verdict on the run of BUDGET steps from s
unfoldable pub run : Code → ℕ → State → List ℤ → Verdict
run c budget s answers = judge_run budget (after c budget (begin s answers))

-- Definition 2 of document 000, rule by rule: the deterministic trace from s. The answers to come are part of what the next step goes by.
pub data DeterministicTrace (c : Code) : State → List ℤ → List Move → Type 0 where
  stop : {s : State} {answers : List ℤ} {p : Price} → step c (answer answers) s ≡ done (stops p) → DeterministicTrace c s answers (move s p [] ∷ [])
  next : {s t : State} {answers : List ℤ} {p : Price} {trace : List Move} → step c (answer answers) s ≡ done (goes p t) →
      DeterministicTrace c t (remaining (takes_answer c s) answers) trace → DeterministicTrace c s answers (move s p [] ∷ trace)
