-- A run that is interrupted and bounded afresh, apart from its code. Assumes nothing.
use Rattle.std.specs.Prelude.{Ok, Err}
use Prim.Native.Nat.{ℕ, ◌≤◌, ◌<◌}
use mathlib.Core.Path.{◌≡◌, refl, sym, ap, ◌∙◌}
use mathlib.Core.Bool.{Bool, true, false, cond}
use mathlib.Core.List.{List, [], ◌∷◌, ◌++◌}
use lib.IntN.{ℤ}
use lib.ListN.{length, drop}
use borrow.Author.Tests.{lt-ltb, le-ltb}
use Rattle.refusals.specs.declared.Refusal.{Refusal}
use Rattle.refusals.specs.Refusals.{number, place}
use Rattle.machine.specs.Machine.{State, Code, reblock}
use Rattle.bound_theory.specs.Tree.{Verdict, accepted, refused, bound}
use Rattle.bound_theory.specs.Run.{Run, begin, after, bounded_afresh}
use Rattle.machine_state.specs.declared.State as states
use Rattle.machine_state.specs.HeldState.{whole}
use Rattle.cells.specs.declared.Cell.{Cell}
use Rattle.bound_figures.specs.declared.Found.{Found}
use Rattle.bound_figures.specs.HeldFigures.{encode, Shows, accepted_as, zero_tally, finished_of}
use Rattle.run_loop.specs.declared.Progress.{Progress}
use Rattle.run_loop.specs.HeldProgress.{of_progress}
use Rattle.bound_explorer.specs.HeldContract.{Explores}
use Rattle.file_reader.specs.declared.Routine.{Routine}
use Rattle.answers.specs.Answers.{Answer, reported, memory}
use Rattle.answers.specs.Answers as answers
use Rattle.file_entry.specs.Held.{routine_in}
use Rattle.file_entry.proofs.EntryLaws.{passes-not, same-refused}
use Rattle.test_interrupts.specs.Interrupts.{numbers_of_run, numbers_of_verdict, numbers_of, steps_of, interrupted, number_of, numbers_told, Tells, Numbered}
use Rattle.test_interrupts.specs.declared.Told.{Told}

-- ---- bounded afresh

-- after STOP
pub afresh-stopped : (M : State → Verdict) (s : State) (stopped : Bool) → stopped ≡ true → Shows (finished_of (zero_tally 0) 0) (bounded_afresh M stopped s)
unfolding bounded_afresh finished_of accepted_as encode
afresh-stopped M s stopped e = rw e refl

-- before it
pub afresh-going : (c : Code) (ns : List ℕ) (fs : List Cell) (s : states.State) (budget : ℕ) (stopped : Bool) → stopped ≡ false → (r : Found) → Explores c ns fs s 32 budget r → Shows r (bounded_afresh (bound c budget) stopped (whole ns fs s))
unfolding bounded_afresh bound
afresh-going c ns fs s budget stopped e r x = rw e x.shows

-- ---- the numbers

-- the numbers of r, with the first as given, before others
abbrev pub first-numbers : ℕ → Progress → List ℕ → List ℕ
first-numbers stopped r ns = stopped ∷ r.state.at ∷ r.cycles ∷ r.words ∷ r.depth ∷ r.steps ∷ ns

-- the numbers of an accepted answer
abbrev pub accepted-numbers : Found → List ℕ
accepted-numbers f = 0 ∷ 0 ∷ f.cycles ∷ f.words ∷ f.depth ∷ f.used ∷ f.path ∷ []

-- and of a refusal
abbrev pub refused-numbers : ℕ → ℕ → List ℕ
refused-numbers n p = n ∷ p ∷ 0 ∷ 0 ∷ 0 ∷ 0 ∷ 0 ∷ []

-- what was found, as numbers
pub tells-accepted : (f : Found) → f.verdict ≡ Ok tt → (v : Verdict) → Shows f v → accepted-numbers f ≡ numbers_of_verdict v
unfolding numbers_of_verdict accepted_as
tells-accepted f a (accepted q) s = ap accepted-numbers s
tells-accepted f a (refused x) s = passes-not x (sym a ∙ s)

pub tells-refused : (f : Found) (x : Refusal) → f.verdict ≡ Err x → (n p : ℕ) → n ≡ number x → p ≡ place x → (v : Verdict) → Shows f v → refused-numbers n p ≡ numbers_of_verdict v
unfolding numbers_of_verdict accepted_as
tells-refused f x a n p h k (accepted q) s = passes-not x (sym (ap (λ g. g.verdict) s) ∙ a)
tells-refused f x a n p h k (refused y) s = let z = same-refused x y (sym a ∙ s) in rw (h, k, z) refl

-- those of a run before them
pub numbered : (r : Progress) (f : Found) (t : Told) (stopped : ℕ) → stopped ≡ cond r.stopped 1 0 → Tells f t → Numbered r f (first-numbers stopped r (numbers_told t))
unfolding numbers_of_run of_progress whole reblock
numbered r f t stopped e h ns xs v s = ap (λ d. first-numbers d r (numbers_told t)) e ∙ ap (first-numbers (cond r.stopped 1 0) r) (h v s)

-- of the run that r stands for
pub numbers-are : (c : Code) (budget : ℕ) (ns : List ℕ) (xs : List ℤ) (r : Progress) (f : Found) (numbers : List ℕ) → Numbered r f numbers →
    Shows f (bounded_afresh (bound c budget) r.stopped (whole ns r.blocks r.state)) → (q : Run) → of_progress ns xs r ≡ q → numbers ≡ numbers_of c budget q
unfolding numbers_of of_progress
numbers-are c budget ns xs r f numbers n s q e = n ns xs _ s ∙ ap (numbers_of c budget) e

-- ---- a routine

pub interrupted-is : (x : Routine) (n steps : ℕ) → steps ≡ steps_of n → (ns : List ℕ) →
    ns ≡ numbers_of (routine_in x).code (routine_in x).budget (after (routine_in x).code steps (begin (routine_in x).start (routine_in x).answers)) → ns ≡ interrupted (routine_in x) n
unfolding interrupted
interrupted-is x n steps h ns e = e ∙ ap (λ k. numbers_of (routine_in x).code (routine_in x).budget (after (routine_in x).code k (begin (routine_in x).start (routine_in x).answers))) h

-- ---- a text

module _ (n : ℕ) where
  pub steps_all : n < 1000000 → n ≡ steps_of n
  unfolding steps_of
  steps_all h = rw (lt-ltb n 1000000 h) refl

  pub steps-most : 1000000 ≤ n → 1000000 ≡ steps_of n
  unfolding steps_of
  steps-most h = rw (le-ltb n 1000000 h) refl

-- the number told and the memory, of a refusal and of numbers
module _ (a : Answer) (former : List ℕ) where
  pub tells-refusal : (x : Refusal) → a ≡ answers.refused x → (k : ℕ) → k ≡ number x → (k ≡ number_of a) × (former ≡ memory a former)
  unfolding number_of memory
  tells-refusal x e k h = (rw (e, h) refl, rw e refl)

  pub tells-numbers : (ns : List ℕ) → a ≡ reported ns → (out : List ℕ) → out ≡ ns ++ drop (length ns) former → (0 ≡ number_of a) × (out ≡ memory a former)
  unfolding number_of memory
  tells-numbers ns e out h = (rw e refl, rw e h)
