-- What is promised of the bytes of a decision, as statements. The contract of `decide` has each by its name.
use Rattle.std.specs.Prelude.{◌≤◌, ◌<◌, ◌≡◌}
use Rattle.refusals.specs.Library.{ℕ, ℤ, true, false, List}
use Rattle.bound_theory.specs.Terms.{Refusal, Report, accepted, refused, bound, cost, CostMax, Run, begin, after, run_is_stuck, unknown, Allowed, State, Code, step, height}
use Rattle.bound_theory.specs.Terms.{Cellwise}
use Rattle.answers.specs.Terms.{Routine, routine, read_bound, reported}
use Rattle.bound_theory.specs.Promises.{LargestOver}
use Rattle.merge_theory.specs.Merge.{merged}
use Rattle.merge_theory.specs.Ways.{table, MergedPath}
use Rattle.decide_report.specs.declared.Source.{Source}
use Rattle.decide_report.specs.declared.Source.TheVariants.{First, Merging, Split}
use Rattle.decide_report.specs.Decision.{fits, over, undecided, decision_text, Says}
use Rattle.decide_entry.specs.Answers.{for_size, decide_answer}

-- the figures q are those of the bound that is named; the merging bound is asked only where the first refuses by 8 or 9, and the bound by cases never
unfoldable pub Gives : Routine → Source → Report → Type 0
Gives x First q = bound x.code x.budget x.start ≡ accepted q
Gives x Merging q = (r : Refusal) × (bound x.code x.budget x.start ≡ refused r) × (for_size r ≡ true) × (merged x.code x.start ≡ accepted q)
Gives x Split q = ⊥

-- the bytes are the decision on the routine x that the text holds, by the bound that is named and with its figures q
pub record Decided (text bytes : List ℕ) (x : Routine) (s : Source) (q : Report) : Type 0 where
  pub reads : read_bound text ≡ routine x
  pub gives : Gives x s q
  pub prints : bytes ≡ decision_text s x.tick q

-- is not stuck, has spent at most TICK cycles and at most WORDS words, has nowhere been deeper than DEPTH, and makes its STOP within
-- STEPS: of the run that so many steps from the start have made
pub record Kept (code : Code) (tick : ℕ) (reported : Report) (start : Run) (made : ℕ) (run : Run) : Type 0 where
  pub moves : run_is_stuck code run ≡ false
  pub cycles : run.cycles ≤ tick
  pub words : run.words ≤ reported.words
  pub depth : run.depth ≤ reported.depth
  pub heights : (k : ℕ) → k ≤ made → height (after code k start).state ≤ reported.depth
  pub steps : run.steps ≤ reported.steps
  pub stops : reported.steps ≤ made → run.stopped ≡ true

-- every run of the routine, from any start that the file allows, with any list of answers, after any number of steps
abbrev pub KeptRuns : Routine → Report → Type 0
KeptRuns x q =
    (s : State) → Cellwise Allowed s x.start → (answers : List ℤ) (n : ℕ) →
    Kept x.code x.tick q (begin s answers) n (after x.code n (begin s answers))

-- the customer's first two lines: where FITS is answered, whichever bound gave the figures, every run keeps within TICK, WORDS and DEPTH
abbrev pub KeepsTick : List ℕ → List ℕ → Type 0
KeepsTick text bytes = Says fits bytes → (x : Routine) × (s : Source) × (q : Report) × Decided text bytes x s q × KeptRuns x q

-- where OVER is answered, the maximum cost of Definition 5 is above TICK: it speaks of the bound and not of a run
abbrev pub OverTick : List ℕ → List ℕ → Type 0
OverTick text bytes =
    Says over bytes → (x : Routine) × (q : Report) × (k : ℕ) × Decided text bytes x First q × CostMax (step x.code unknown) x.start k × (x.tick < k)

-- where UNDECIDED is answered, the first bound refuses by 8 or 9, and the largest sum over the merged ways is above TICK
abbrev pub UndecidedTick : List ℕ → List ℕ → Type 0
UndecidedTick text bytes =
    Says undecided bytes →
    (x : Routine) × (q : Report) × (k : ℕ) × Decided text bytes x Merging q
    × LargestOver (MergedPath (step x.code unknown) (table x.code x.start) x.start.at) cost k × (x.tick < k)

-- all three, of every decision
abbrev pub DecisionsKept : Type 0
DecisionsKept = (text : List ℕ) (n : ℕ) (bytes : List ℕ) → decide_answer text n ≡ reported bytes → KeepsTick text bytes × OverTick text bytes × UndecidedTick text bytes
