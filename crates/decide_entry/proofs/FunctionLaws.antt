-- The decision in code is that of the definition. Assumes nothing.
use Rattle.std.specs.Prelude.{Err, Ok, Result, ⊤}
use Prim.Native.Nat.{ℕ, ◌≤◌}
use mathlib.Core.Path.{◌≡◌, refl, sym, ap, ◌∙◌}
use mathlib.Core.Bool.{true, false, cond}
use mathlib.Core.List.{List}
use native.Mathlib.Omega.{arith}
use lib.Dec.{eqb}
use borrow.Author.Tests.{ne_eqb}
use Rattle.refusals.specs.declared.Refusal.{Refusal}
use Rattle.refusals.specs.Refusals.{number}
use Rattle.bound_theory.specs.Tree.{bound}
use Rattle.bound_theory.specs.Tree as bounds
use Rattle.merge_theory.specs.Merge.{merged}
use Rattle.bound_figures.specs.declared.Found.{Found}
use Rattle.bound_figures.specs.HeldFigures.{Shows, accepted_as}
use Rattle.file_format.specs.Routine.{Routine, read_bound}
use Rattle.file_format.specs.Routine as readings
use Rattle.report.proofs.DecodeLaws.{report-of}
use Rattle.answers.specs.Answers.{reported, refused, memory_limit, memory, answer_of, report_length, Delivers}
use Rattle.answers.proofs.AnswerLaws.{reading-passed, delivers}
use Rattle.decide_report.specs.declared.Source.TheVariants.{First, Merging}
use Rattle.decide_report.specs.Decision.{decision_text}
use Rattle.decide_entry.specs.Answers.{for_size, by_merging, decided, decide_routine, decide_answer}
use Rattle.decide_entry.specs.Promises.{KeepsTick, OverTick, UndecidedTick}
use Rattle.decide_report.specs.Held.{report_in, Roomy}
use Rattle.decide_entry.proofs.PromiseLaws.{keeps, over-tick, undecided-tick, decide-reported}

-- ---- the verdict that figures show

not-both : {A : Type 0} (x : Refusal) → ◌≡◌ {A = Result ⊤ Refusal} (Ok tt) (Err x) → A
not-both x e = let z : ◌≡◌ {A = ℕ} 0 1 = cc in absurd (omega arith)

pub shown-accepted : (f : Found) (v : bounds.Verdict) → Shows f v → f.verdict ≡ Ok tt → v ≡ bounds.accepted (report_in f)
unfolding accepted_as
shown-accepted f (bounds.accepted q) s e = ap bounds.accepted (sym (ap report_in s ∙ report-of q))
shown-accepted f (bounds.refused y) s e = not-both y (sym e ∙ s)

pub shown-refused : (f : Found) (v : bounds.Verdict) → Shows f v → (y : Refusal) → f.verdict ≡ Err y → v ≡ bounds.refused y
unfolding accepted_as
shown-refused f (bounds.accepted q) s y e = not-both y (sym (ap (λ (g : Found). g.verdict) s) ∙ e)
shown-refused f (bounds.refused z) s y e = let h : Err z ≡ Err y = sym s ∙ e in let k : z ≡ y = cc in ap bounds.refused k

-- ---- the refusals for size

pub size-eight : (r : Refusal) (n : ℕ) → n ≡ number r → n ≡ 8 → true ≡ for_size r
unfolding for_size
size-eight r n e h = let k : number r ≡ 8 = sym e ∙ h in rw k refl

pub size-other : (r : Refusal) (n : ℕ) → n ≡ number r → (n ≡ 8 → ⊥) → eqb n 9 ≡ for_size r
unfolding for_size
size-other r n e h = rw (← e, ne_eqb n 8 h) refl

-- ---- a routine

module _ (x : Routine) where
  pub routine-first : (f : Found) → Shows f (bound x.code x.budget x.start) → f.verdict ≡ Ok tt → decide_routine x ≡ reported (decision_text First x.tick (report_in f))
  unfolding decide_routine decided
  routine-first f s e = ap (λ v. decided x.tick v (merged x.code x.start)) (shown-accepted f (bound x.code x.budget x.start) s e)

  pub routine-refused : (f : Found) → Shows f (bound x.code x.budget x.start) → (r : Refusal) → f.verdict ≡ Err r → for_size r ≡ false → decide_routine x ≡ refused r
  unfolding decide_routine decided
  routine-refused f s r e h = ap (λ v. decided x.tick v (merged x.code x.start)) (shown-refused f (bound x.code x.budget x.start) s r e) ∙ ap (λ b. cond b (by_merging x.tick r (merged x.code x.start)) (refused r)) h

  module _ (r : Refusal) (b : bound x.code x.budget x.start ≡ bounds.refused r) (h : for_size r ≡ true) (f : Found) (s : Shows f (merged x.code x.start)) where
    by : decide_routine x ≡ by_merging x.tick r (merged x.code x.start)
    unfolding decide_routine decided
    by = ap (λ v. decided x.tick v (merged x.code x.start)) b ∙ ap (λ c. cond c (by_merging x.tick r (merged x.code x.start)) (refused r)) h

    pub merging-decides : f.verdict ≡ Ok tt → decide_routine x ≡ reported (decision_text Merging x.tick (report_in f))
    unfolding by_merging
    merging-decides e = by ∙ ap (by_merging x.tick r) (shown-accepted f (merged x.code x.start) s e)

    pub merging-refuses : (y : Refusal) → f.verdict ≡ Err y → decide_routine x ≡ refused r
    unfolding by_merging
    merging-refuses y e = by ∙ ap (by_merging x.tick r) (shown-refused f (merged x.code x.start) s y e)

-- ---- a text

module _ (text : List ℕ) (n : ℕ) where
  pub decide-passed : 128 ≤ n → (x : Routine) → read_bound text ≡ readings.routine x → decide_answer text n ≡ decide_routine x
  unfolding decide_answer
  decide-passed = reading-passed decide_routine (read_bound text) memory_limit n

  pub decide-roomy : 128 ≤ n → (x : Routine) → read_bound text ≡ readings.routine x → Roomy (decide_routine x) n
  decide-roomy h x e bs q = let f = decide-reported text n bs (decide-passed h x e ∙ q) in omega (arith, f.1, f.2)

  -- what the equations of an answer give besides
  pub decide-keeps : (former out : List ℕ) (r : Result ℕ Refusal) → (r ≡ answer_of (decide_answer text n)) × (out ≡ memory (decide_answer text n) former) →
      (r ≡ answer_of (decide_answer text n)) × ((out ≡ memory (decide_answer text n) former)
      × (Delivers (report_length r) out (KeepsTick text) × (Delivers (report_length r) out (OverTick text) × Delivers (report_length r) out (UndecidedTick text))))
  decide-keeps former out r (e, m) = (
    e,
    (
      m,
      (
        delivers (KeepsTick text) (decide_answer text n) (keeps text n) r e former out m,
        (
          delivers (OverTick text) (decide_answer text n) (over-tick text n) r e former out m,
          delivers (UndecidedTick text) (decide_answer text n) (undecided-tick text n) r e former out m,
        ),
      ),
    ),
  )
