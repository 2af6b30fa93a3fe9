-- The run's loop, apart from its code: its answers, what holds at each turn, what each way out gives, and its verdict. Assumes nothing.
use Rattle.refusals.specs.declared.Refusal.{Refusal}
use Rattle.std.specs.Prelude.{Err, Ok, Result, ⊤, None, Option, Some}
use mathlib.Core.Path.{◌≡◌, refl, sym, ap, subst, ◌∙◌}
use mathlib.Core.Bool.{Bool, true, false}
use mathlib.Core.List.{List, [], ◌∷◌}
use Prim.Native.Nat.{ℕ, zero, suc, ◌+◌, ◌-◌, ◌*◌, max, ◌≤◌, ◌<◌}
use native.Mathlib.Omega.{arith}
use native.Mathlib.Numerals.{add-one}
use lib.IntN.{ℤ, pos}
use lib.ListN.{length, get_or, drop, set}
use borrow.Author.Tests.{lt-ltb, le-ltb}
use Rattle.refusals.specs.declared.Refusal.TheVariants.{Stuck, Spent}
use Rattle.cells.specs.declared.Cell.{Cell}
use Rattle.cells.specs.Cells.{exactly}
use Rattle.machine.specs.Machine.{State, height, Code, reblock, step, takes_answer}
use Rattle.machine_state.specs.declared.State as states
use Rattle.machine_state.specs.HeldState.{WellFormed, whole}
use Rattle.machine_state.proofs.StateLaws.{height-is}
use Rattle.bound_theory.specs.Tree.{opening_limit, bound}
use Rattle.bound_theory.specs.Run.{Run, begin, answer, remaining, moved, leads, once, after, judge_run, run}
use Rattle.bound_theory.proofs.RunLaws.{after-still}
use Rattle.bound_theory.proofs.PromiseLaws.{interruptible, run-within-bound}
use Rattle.machine_step.specs.declared.Price.{Price}
use Rattle.machine_step.specs.declared.Next as next
use Rattle.machine_step.specs.declared.Next.TheVariants as leads-to
use Rattle.machine_step.specs.HeldStep.{SmallPrice, of_next, Differs}
use Rattle.run_loop.specs.declared.Progress.{Progress}
use Rattle.run_loop.specs.declared.Ran.{Ran}
use Rattle.run_loop.specs.HeldProgress.{of_progress}
use Rattle.run_loop.specs.HeldContract.{judged, verdict_of, SafeFrom, WithinBound}

-- ---- the answers after the first k

pub answer-out : (xs : List ℤ) (k : ℕ) → length xs ≤ k → exactly (pos 0) ≡ answer (drop k xs)
unfolding answer
answer-out [] zero h = refl
answer-out [] (suc k) h = refl
answer-out (x ∷ xs) zero h = absurd (omega arith)
answer-out (x ∷ xs) (suc k) h = answer-out xs k (omega arith)

pub answer-in : (xs : List ℤ) (k : ℕ) → k < length xs → exactly (get_or xs k (pos 0)) ≡ answer (drop k xs)
unfolding answer
answer-in [] k h = absurd (omega arith)
answer-in (x ∷ xs) zero h = refl
answer-in (x ∷ xs) (suc k) h = answer-in xs k (omega arith)

drop-next : (xs : List ℤ) (k : ℕ) → drop (suc k) xs ≡ remaining true (drop k xs)
unfolding remaining
drop-next [] zero = refl
drop-next [] (suc k) = refl
drop-next (x ∷ xs) zero = refl
drop-next (x ∷ xs) (suc k) = drop-next xs k

pub takes_one : (xs : List ℤ) (k : ℕ) → drop (k + 1) xs ≡ remaining true (drop k xs)
takes_one xs k = rw (add-one k) (drop-next xs k)

pub takes_none : (xs : List ℤ) → xs ≡ remaining false xs
unfolding remaining
takes_none [] = refl
takes_none (x ∷ xs) = refl

-- ---- the loop

-- what holds whenever the loop's test is reached, of the run r so far, which began as b
pub record Going (c : Code) (ns : List ℕ) (answers : List ℤ) (b : Run) (n : ℕ) (r : Progress) : Type 0 where
  pub within : r.steps ≤ n
  pub formed : WellFormed r.state
  pub taken : r.taken ≤ r.steps
  pub cycles : r.cycles ≤ 8589934592 * r.steps
  pub words : r.words ≤ 4294967296 * r.steps
  pub going : r.stopped ≡ false
  pub is : of_progress ns answers r ≡ after c r.steps b

-- a run that begins
abbrev pub beginning : states.State → List Cell → ℕ → Progress
beginning s fs d = record { state = s; blocks = fs; taken = 0; cycles = 0; words = 0; depth = d; steps = 0; stopped = false }

pub begins : (c : Code) (ns : List ℕ) (answers : List ℤ) (n : ℕ) (s : states.State) (fs : List Cell) → WellFormed s → Going c ns answers (begin (whole ns fs s) answers) n (beginning s fs (64 - s.free))
unfolding of_progress begin after height whole reblock
begins c ns answers n s fs formed = record {
  within = omega arith;
  formed = formed;
  taken = omega arith;
  cycles = omega arith;
  words = omega arith;
  going = refl;
  is = rw (height-is s formed) refl;
}

runs-equal : (x y : Run) → x.state ≡ y.state → x.answers ≡ y.answers → x.cycles ≡ y.cycles → x.words ≡ y.words → x.depth ≡ y.depth → x.steps ≡ y.steps → x.stopped ≡ y.stopped → x ≡ y
runs-equal x y a b c d e f g = λ i. record { state = a i; answers = b i; cycles = c i; words = d i; depth = e i; steps = f i; stopped = g i }

-- a number of answers taken, after a step that takes one or none
pub record Takes (calls : Bool) (taken k : ℕ) : Type 0 where
  pub drops : (answers : List ℤ) → drop k answers ≡ remaining calls (drop taken answers)
  pub few : k ≤ suc taken

module _ (c : Code) (ns : List ℕ) (answers : List ℤ) (b : Run) (n : ℕ) (r : Progress) (i : Going c ns answers b n r) where
  -- the step that the run is at leads to x, with the state t and the blocks fs, and takes an answer or not
  module _ (x : next.Next) (t : states.State) (fs : List Cell) (calls : Bool) (a : Cell) (asked : a ≡ answer (drop r.taken answers))
      (makes : of_next x (whole ns fs t) ≡ step c a (whole ns r.blocks r.state)) (takes : calls ≡ takes_answer c (whole ns r.blocks r.state)) where
    once_is : once c (of_progress ns answers r) ≡ moved (of_progress ns answers r) (remaining calls (drop r.taken answers)) false (of_next x (whole ns fs t))
    unfolding once leads of_progress
    once_is =
        ap (λ s. moved (of_progress ns answers r) (remaining (takes_answer c (whole ns r.blocks r.state)) (drop r.taken answers)) s (step c (answer (drop r.taken answers)) (whole ns r.blocks r.state))) i.going
        ∙ ap (λ a. moved (of_progress ns answers r) (remaining (takes_answer c (whole ns r.blocks r.state)) (drop r.taken answers)) false (step c a (whole ns r.blocks r.state))) (sym asked)
        ∙ ap (λ m. moved (of_progress ns answers r) (remaining (takes_answer c (whole ns r.blocks r.state)) (drop r.taken answers)) false m) (sym makes)
        ∙ ap (λ k. moved (of_progress ns answers r) (remaining k (drop r.taken answers)) false (of_next x (whole ns fs t))) (sym takes)

    -- what the run so far is after one step more
    next-is : (q : Run) → q ≡ moved (of_progress ns answers r) (remaining calls (drop r.taken answers)) false (of_next x (whole ns fs t)) → q ≡ after c (suc r.steps) b
    unfolding after
    next-is q e = e ∙ sym once_is ∙ ap (once c) i.is

    module _ (p : Price) (k : ℕ) (took : Takes calls r.taken k) (cheap : SmallPrice p) where
      -- STOP was made
      pub stops-out : x ≡ leads-to.Stops p → r.steps < n →
          of_progress ns answers (record { state = r.state; blocks = r.blocks; taken = k; cycles = r.cycles + p.cycles; words = r.words + p.words; depth = r.depth; steps = r.steps + 1; stopped = true }) ≡ after c n b
      unfolding of_progress moved of_next once
      stops-out e h =
          let q : Run = record { state = whole ns r.blocks r.state; answers = drop k answers; cycles = r.cycles + p.cycles; words = r.words + p.words; depth = r.depth; steps = suc r.steps; stopped = true } in
          let f : q ≡ after c (suc r.steps) b = next-is q
          (runs-equal _ _ refl (took.drops answers) refl refl refl refl refl
          ∙ ap (λ x. moved (of_progress ns answers r) (remaining calls (drop r.taken answers)) false (of_next x (whole ns fs t))) (sym e)) in
          runs-equal _ _ refl refl refl refl refl (add-one r.steps) refl ∙ f
          ∙ sym (after-still c (suc r.steps) n b h (ap (once c) (sym f) ∙ f))

      -- a step was made
      pub goes_on : x ≡ leads-to.Goes p → r.steps < n → WellFormed t → (d : ℕ) → d ≡ max r.depth (64 - t.free) →
          Going c ns answers b n (record { state = t; blocks = fs; taken = k; cycles = r.cycles + p.cycles; words = r.words + p.words; depth = d; steps = r.steps + 1; stopped = false })
      unfolding of_progress moved of_next height whole reblock
      goes_on e h formed d deep = record {
        within = omega arith;
        formed = formed;
        taken = omega (arith, took.few, i.taken);
        cycles = omega (arith, i.cycles, cheap.cycles);
        words = omega (arith, i.words, cheap.words);
        going = refl;
        is =
            next-is _
            (runs-equal _ _ refl (took.drops answers) refl refl (deep ∙ ap (max r.depth) (sym (height-is t formed))) (add-one r.steps) refl
            ∙ ap (λ x. moved (of_progress ns answers r) (remaining calls (drop r.taken answers)) false (of_next x (whole ns fs t))) (sym e))
            ∙ ap (λ k. after c k b) (sym (add-one r.steps));
      }

    -- no step was made: it is stuck, or would open two ways
    pub stays_out : ((p : Price) → x ≡ leads-to.Stops p → ⊥) → ((p : Price) → x ≡ leads-to.Goes p → ⊥) → of_progress ns answers r ≡ after c n b
    stays_out no_stop no_way =
        let e = once_is ∙ still x no_stop no_way in
        i.is ∙ sym (after-still c r.steps n b i.within (ap (once c) (sym i.is) ∙ e ∙ i.is))
      where
        still : (x : next.Next) → ((p : Price) → x ≡ leads-to.Stops p → ⊥) → ((p : Price) → x ≡ leads-to.Goes p → ⊥) →
            moved (of_progress ns answers r) (remaining calls (drop r.taken answers)) false (of_next x (whole ns fs t)) ≡ of_progress ns answers r
        still leads-to.Stuck f g = unfold moved of_next in refl
        still (leads-to.Stops p) f g = absurd (f p refl)
        still (leads-to.Goes p) f g = absurd (g p refl)
        still (leads-to.Opens p a q) f g = unfold moved of_next in refl

-- ---- the blocks that a step left

pub set-one : (x : Option (ℕ × Cell)) (fs gs : List Cell) (j : ℕ) (c : Cell) → Differs x fs gs → x ≡ Some (j, c) → (j < 128) × (gs ≡ set fs j c)
set-one x fs gs j c d e = subst (λ y. Differs y fs gs) e d

pub set-none : (x : Option (ℕ × Cell)) (fs gs : List Cell) → Differs x fs gs → x ≡ None → gs ≡ fs
set-none x fs gs d e = subst (λ y. Differs y fs gs) e d

-- ---- the verdict

abbrev pub ran : Progress → Result ⊤ Refusal → Ran
ran r v = record { verdict = v; cycles = r.cycles; words = r.words; depth = r.depth; steps = r.steps }

module _ (ns : List ℕ) (answers : List ℤ) (budget : ℕ) (r : Progress) where
  pub stopped-judged : r.stopped ≡ true → verdict_of (ran r (Ok tt)) ≡ judge_run budget (of_progress ns answers r)
  unfolding verdict_of judged judge_run of_progress
  stopped-judged h = rw h refl

  pub stuck-judged : r.stopped ≡ false → r.steps < budget → verdict_of (ran r (Err (Stuck r.state.at))) ≡ judge_run budget (of_progress ns answers r)
  unfolding verdict_of judged judge_run of_progress whole reblock
  stuck-judged h l = rw (h, lt-ltb r.steps budget l) refl

  pub spent-judged : r.stopped ≡ false → budget ≤ r.steps → verdict_of (ran r (Err (Spent r.state.at))) ≡ judge_run budget (of_progress ns answers r)
  unfolding verdict_of judged judge_run of_progress whole reblock
  spent-judged h l = rw (h, le-ltb r.steps budget l) refl

pub run-judged : (c : Code) (budget : ℕ) (s : State) (answers : List ℤ) (r : Run) (v : Ran) → verdict_of v ≡ judge_run budget r → r ≡ after c budget (begin s answers) → verdict_of v ≡ run c budget s answers
unfolding run
run-judged c budget s answers r v h e = h ∙ ap (judge_run budget) e

-- ---- demand 3

pub safe-from : (c : Code) (s : State) (answers : List ℤ) (n : ℕ) (r : Run) → r ≡ after c n (begin s answers) → SafeFrom c s answers n r
unfolding bound
safe-from c s answers n r e budget t q a w = rw e (interruptible c opening_limit budget t q a s w answers n)

pub within-bound : (c : Code) (budget : ℕ) (s : State) (answers : List ℤ) (r : Ran) → verdict_of r ≡ run c budget s answers → WithinBound c budget s (verdict_of r)
within-bound c budget s answers r e t q a w = let (p, f, l) = run-within-bound c budget t q a s w answers in (p, e ∙ f, l)
