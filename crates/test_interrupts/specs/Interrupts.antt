-- A run of a routine file, interrupted after a number of steps and bounded afresh, as thirteen numbers. (document 01, Interrupted runs)
use Rattle.std.specs.Prelude.{◌∷◌, ◌++◌, ◌≡◌}
use Rattle.refusals.specs.Library.{ℕ, ltb, ℤ, cond, List, []}
use Rattle.bound_theory.specs.Terms.{number, place, Verdict, accepted, refused, bound, Run, begin, after, Code}
use Rattle.answers.specs.Terms.{Routine, read_run, Answer, reported, lending, of_reading}
use Rattle.bound_theory.specs.Run.{bounded_afresh}
use Rattle.run_loop.specs.declared.Progress.{Progress}
use Rattle.run_loop.specs.HeldProgress.{of_progress}
use Rattle.bound_figures.specs.declared.Found.{Found}
use Rattle.bound_figures.specs.HeldFigures.{encode, Shows}
use Rattle.answers.specs.Answers as answers
use Rattle.test_interrupts.specs.declared.Told.{Told}

-- of a run: 1 if STOP was made, its address, the cycles and the words spent, its largest height, its steps
unfoldable pub numbers_of_run : Run → List ℕ
numbers_of_run r = cond r.stopped 1 0 ∷ r.state.at ∷ r.cycles ∷ r.words ∷ r.depth ∷ r.steps ∷ []

-- of a verdict: 0 and 0, then its figures with the path as `encode` has it; or the number and the place of its refusal, then 0 for each figure
unfoldable pub numbers_of_verdict : Verdict → List ℕ
numbers_of_verdict (accepted q) = 0 ∷ 0 ∷ q.cycles ∷ q.words ∷ q.depth ∷ q.steps ∷ encode q.path ∷ []
numbers_of_verdict (refused x) = number x ∷ place x ∷ 0 ∷ 0 ∷ 0 ∷ 0 ∷ 0 ∷ []

-- of a run that is interrupted: where it has come to, and its state "Bounded afresh"
unfoldable pub numbers_of : Code → ℕ → Run → List ℕ
numbers_of c budget r = numbers_of_run r ++ numbers_of_verdict (bounded_afresh (bound c budget) r.stopped r.state)

-- the steps made of n that are asked for: no BUDGET is above 1,000,000
unfoldable pub steps_of : ℕ → ℕ
steps_of n = cond (ltb n 1000000) n 1000000

-- the routine x, interrupted after any number of steps, 0 included
unfoldable pub interrupted : Routine → ℕ → List ℕ
interrupted x n = numbers_of x.code x.budget (after x.code (steps_of n) (begin x.start x.answers))

-- the answer to a text, to n steps and to so many lent numbers; "report memory" is thirteen of them
unfoldable pub interrupt_answer : List ℕ → ℕ → ℕ → Answer
interrupt_answer text n lent = lending 13 lent (of_reading (λ x. reported (interrupted x n)) (read_run text))

-- an answer as one number: 0, or the number of the refusal
unfoldable pub number_of : Answer → ℕ
number_of (reported ns) = 0
number_of (answers.refused r) = number r

-- the numbers that are told
abbrev pub numbers_told : Told → List ℕ
numbers_told t = t.number ∷ t.place ∷ t.cycles ∷ t.words ∷ t.depth ∷ t.used ∷ t.path ∷ []

-- they are those of the verdict that is found
abbrev pub Tells : Found → Told → Type 0
Tells found t = (v : Verdict) → Shows found v → numbers_told t ≡ numbers_of_verdict v

-- the numbers ns are those of the run that r stands for and of the verdict that is found
abbrev pub Numbered : Progress → Found → List ℕ → Type 0
Numbered r found ns = (sizes : List ℕ) (answers : List ℤ) (v : Verdict) → Shows found v → ns ≡ numbers_of_run (of_progress sizes answers r) ++ numbers_of_verdict v
