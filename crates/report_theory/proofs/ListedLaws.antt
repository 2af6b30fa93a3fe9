-- A call is refused in the listed cases, each by its number and at its place, and in no other. Assumes nothing.
use Rattle.std.specs.Prelude.{Err, None, Option, Result, Some}
use Prim.Native.Nat.{ℕ, ◌≤◌}
use mathlib.Core.Path.{◌≡◌, refl, sym, ap, ◌∙◌}
use mathlib.Core.Bool.{Bool, true, false, cond}
use mathlib.Core.List.{List, [], ◌∷◌}
use mathlib.Core.Logic.{◌⊎◌, inl, inr, ◌↔◌}
use native.Mathlib.Omega.{arith}
use lib.Dec.{ltb}
use lib.ListN.{length}
use borrow.Author.Tests.{lt-ltb, le-ltb, ltb-true, ltb-false}
use Rattle.refusals.specs.declared.Refusal.{Refusal}
use Rattle.refusals.specs.declared.Refusal.TheVariants.{ReportMemory, TextLength, Stuck, Spent}
use Rattle.text.specs.Text.{Line, lines}
use Rattle.bound_theory.specs.Tree.{Report, Verdict}
use Rattle.bound_theory.specs.Tree as verdicts
use Rattle.bound_theory.specs.Run.{judge_run, run}
use Rattle.bound_theory.proofs.PromiseLaws.{refused-where}
use Rattle.bound_theory.proofs.RunVerdictLaws.{run-refused-where}
use Rattle.merge_theory.proofs.Theorems.{merged-refused-where}
use Rattle.file_format.specs.Rows.{refused_line}
use Rattle.file_format.specs.Routine.{Routine, routine_of, Reading, or_else, Check, bound_checks, run_checks, checked, text_limit, limited, read_bound, read_run}
use Rattle.file_format.specs.Routine as readings
use Rattle.file_format.proofs.RowLaws.{read-passes}
use Rattle.file_format.proofs.BranchLaws.{passing-forward, passing-closed}
use Rattle.answers.specs.Answers.{Answer, reported, refused, memory_limit, of_reading, answer_of}
use Rattle.report_theory.specs.Answers.{of_verdict, bound_routine, merge_routine, run_routine, bound_answer, merge_answer, run_answer}
use Rattle.report_theory.specs.Listed.{FirstRow, this, later, ListedCase, few_bytes, long_text, row_refuses, ends, BoundRefused, MergeRefused, run_of, RunEnds, is_stuck, is_spent, RunRefused, Refuses, ListedAlone, AnswersListed}
use Rattle.report_theory.proofs.AnswerLaws.{from-refused}

-- ---- the rows

no_line : {A : Type 0} (n : ℕ) → Some n ≡ None → A
no_line n e = let z : ◌≡◌ {A = ℕ} 0 1 = cc in absurd (omega arith)

routine-not : {A : Type 0} (r : Refusal) (x : Routine) → readings.routine x ≡ readings.unread r → A
routine-not r x e = let z : ◌≡◌ {A = ℕ} 0 1 = cc in absurd (omega arith)

module _ (ls : List Line) where
  checked-first : (cs : List Check) (r : Refusal) → checked cs ls ≡ readings.unread r → FirstRow ls r cs
  unfolding checked or_else
  checked-first [] r e = routine-not r _ e
  checked-first (c ∷ cs) r e = go (refused_line c.row ls) refl e (checked-first cs r)
    where
      go : (f : Option ℕ) → refused_line c.row ls ≡ f → or_else f c.refusal (checked cs ls) ≡ readings.unread r → (checked cs ls ≡ readings.unread r → FirstRow ls r cs) → FirstRow ls r (c ∷ cs)
      go None q h ih = later q (ih h)
      go (Some n) q h ih = let k : r ≡ c.refusal n = cc in this q k

  first-checked : {r : Refusal} {cs : List Check} → FirstRow ls r cs → checked cs ls ≡ readings.unread r
  unfolding checked or_else
  first-checked (this q e) = rw (q, e) refl
  first-checked (later q f) = rw q (first-checked f)

  none-checked : (cs : List Check) → ((r : Refusal) → FirstRow ls r cs → ⊥) → checked cs ls ≡ readings.routine (routine_of ls)
  unfolding checked or_else
  none-checked [] h = refl
  none-checked (c ∷ cs) h = go (refused_line c.row ls) refl (none-checked cs)
    where
      go : (f : Option ℕ) → refused_line c.row ls ≡ f → (((r : Refusal) → FirstRow ls r cs → ⊥) → checked cs ls ≡ readings.routine (routine_of ls)) → or_else f c.refusal (checked cs ls) ≡ readings.routine (routine_of ls)
      go None q ih = ih (λ r f. h r (later q f))
      go (Some n) q ih = absurd (h (c.refusal n) (this q refl))

  checked-none : (cs : List Check) (x : Routine) → checked cs ls ≡ readings.routine x → (r : Refusal) → FirstRow ls r cs → ⊥
  checked-none cs x e r f = routine-not r x (sym e ∙ first-checked f)

  -- what is read is the routine of the lines
  read-routine : (cs : List Check) (x : Routine) → checked cs ls ≡ readings.routine x → x ≡ routine_of ls
  read-routine cs x e = let k = none-checked cs (checked-none cs x e) in cc

-- ---- a call

module _ (rows : List Check) (Ends : Routine → Refusal → Type 0) (f : Routine → Answer) (text : List ℕ) (lent : ℕ) where
  abbrev reading : Reading
  reading = limited text (checked rows (lines text))

  -- what a text that is read gives: the routine of its lines is refused where it ends so
  abbrev Settled : Type 0
  Settled = reading ≡ readings.routine (routine_of (lines text)) → (r : Refusal) → (f (routine_of (lines text)) ≡ refused r) ↔ Ends (routine_of (lines text)) r

  limited-case : Settled → memory_limit ≤ lent → (r : Refusal) → of_reading f reading ≡ refused r → ListedCase rows Ends text lent r
  unfolding limited of_reading
  limited-case settled enough r e = by (ltb text_limit (length text)) refl e
    where
      routine : length text ≤ text_limit → (x : Routine) → checked rows (lines text) ≡ readings.routine x → x ≡ routine_of (lines text) → f x ≡ refused r → ListedCase rows Ends text lent r
      routine short x q i e =
          let k : checked rows (lines text) ≡ readings.routine (routine_of (lines text)) = q ∙ ap readings.routine i in
          let m : reading ≡ readings.routine (routine_of (lines text)) = rw (le-ltb text_limit (length text) short) k in
          ends enough short (checked-none (lines text) rows x q) ((settled m r).0 (ap f (sym i) ∙ e))

      read : length text ≤ text_limit → (m : Reading) → checked rows (lines text) ≡ m → of_reading f m ≡ refused r → ListedCase rows Ends text lent r
      read short (readings.unread x) q e = let h : x ≡ r = cc in row_refuses enough short (checked-first (lines text) rows r (q ∙ ap readings.unread h))
      read short (readings.routine x) q e = routine short x q (read-routine (lines text) rows x q) e

      by : (b : Bool) → ltb text_limit (length text) ≡ b → of_reading f (cond b (readings.unread TextLength) (checked rows (lines text))) ≡ refused r → ListedCase rows Ends text lent r
      by true q e = long_text enough (ltb-true text_limit (length text) q) (cc)
      by false q e = read (ltb-false text_limit (length text) q) (checked rows (lines text)) refl e

  case-limited : Settled → (r : Refusal) → ListedCase rows Ends text lent r → cond (ltb lent memory_limit) (refused ReportMemory) (of_reading f reading) ≡ refused r
  unfolding limited of_reading
  case-limited settled r (few_bytes h e) = rw (lt-ltb lent memory_limit h, e) refl
  case-limited settled r (long_text h l e) = rw (le-ltb lent memory_limit h, lt-ltb text_limit (length text) l, e) refl
  case-limited settled r (row_refuses h l k) = rw (le-ltb lent memory_limit h, le-ltb text_limit (length text) l, first-checked (lines text) k) refl
  case-limited settled r (ends h l k e) =
      let m = none-checked (lines text) rows k in
      rw (le-ltb lent memory_limit h, le-ltb text_limit (length text) l, m) ((settled (rw (le-ltb text_limit (length text) l) m) r).1 e)

  pub refused-case : Settled → (r : Refusal) → (cond (ltb lent memory_limit) (refused ReportMemory) (of_reading f reading) ≡ refused r) ↔ ListedCase rows Ends text lent r
  refused-case settled r = (by (ltb lent memory_limit) refl, case-limited settled r)
    where
      by : (b : Bool) → ltb lent memory_limit ≡ b → cond b (refused ReportMemory) (of_reading f reading) ≡ refused r → ListedCase rows Ends text lent r
      by true q e = few_bytes (ltb-true lent memory_limit q) (cc)
      by false q e = limited-case settled (ltb-false lent memory_limit q) r e

both : {A B C : Type 0} → A ↔ B → B ↔ C → A ↔ C
both f g = (λ a. g.0 (f.0 a), λ c. f.1 (g.1 c))

-- of a verdict
verdict-refused : (text : Report → List ℕ) (v : Verdict) (r : Refusal) → (of_verdict text v ≡ refused r) ↔ (v ≡ verdicts.refused r)
unfolding of_verdict
verdict-refused text v r = (from-refused text v r, λ e. ap (of_verdict text) e)

-- of a run

module _ (x : Routine) where
  abbrev ran : Verdict
  ran = run x.code x.budget x.start x.answers

  -- it is refused by 7 or 9 alone
  stuck-or-spent : (r : Refusal) → ran ≡ verdicts.refused r → ((a : ℕ) × (r ≡ Stuck a)) ⊎ ((a : ℕ) × (r ≡ Spent a))
  unfolding run judge_run
  stuck-or-spent r e = by (run_of x x.budget).stopped (ltb (run_of x x.budget).steps x.budget) _ _ e
    where
      by : (b d : Bool) (q : Report) (a : ℕ) → cond b (verdicts.accepted q) (verdicts.refused (cond d (Stuck a) (Spent a))) ≡ verdicts.refused r →
          ((a : ℕ) × (r ≡ Stuck a)) ⊎ ((a : ℕ) × (r ≡ Spent a))
      by true d q a e = let z : ◌≡◌ {A = ℕ} 0 1 = cc in absurd (omega arith)
      by false true q a e = let h : r ≡ Stuck a = cc in inl (a, h)
      by false false q a e = let h : r ≡ Spent a = cc in inr (a, h)

  run_ends : (r : Refusal) → (ran ≡ verdicts.refused r) ↔ RunEnds x r
  run_ends r = (λ e. out e (stuck-or-spent r e), back)
    where
      out : ran ≡ verdicts.refused r → ((a : ℕ) × (r ≡ Stuck a)) ⊎ ((a : ℕ) × (r ≡ Spent a)) → RunEnds x r
      out e (inl (a, f)) =
          let (k, l, h, g) = ((run-refused-where x.code x.budget x.start x.answers).0 a).0 (e ∙ ap verdicts.refused f) in
          is_stuck k l h (f ∙ ap Stuck (sym g))
      out e (inr (a, f)) =
          let (k, h, g) = ((run-refused-where x.code x.budget x.start x.answers).1 a).0 (e ∙ ap verdicts.refused f) in
          is_spent k h (f ∙ ap Spent (sym g))

      back : RunEnds x r → ran ≡ verdicts.refused r
      back (is_stuck k l h f) = ((run-refused-where x.code x.budget x.start x.answers).0 _).1 (k, l, h, refl) ∙ ap verdicts.refused (sym f)
      back (is_spent k h f) = ((run-refused-where x.code x.budget x.start x.answers).1 _).1 (k, h, refl) ∙ ap verdicts.refused (sym f)

-- ---- the three calls

module _ (text : List ℕ) (n : ℕ) (r : Refusal) where
  pub bound-listed : (bound_answer text n ≡ refused r) ↔ BoundRefused text n r
  unfolding bound_answer read_bound bound_routine
  bound-listed = refused-case bound_checks _ bound_routine text n (λ e r. both (verdict-refused _ _ r) (refused-where _ _ _ r)) r

  pub merge-listed : (merge_answer text n ≡ refused r) ↔ MergeRefused text n r
  unfolding merge_answer read_bound merge_routine
  merge-listed =
      refused-case bound_checks _ merge_routine text n
      (λ e r.
      let p = (read-passes text (routine_of (lines text)) e).0 in
      both (verdict-refused _ _ r) (merged-refused-where _ (passing-forward (lines text) p) (passing-closed (lines text) p) _ r)) r

  pub run-listed : (run_answer text n ≡ refused r) ↔ RunRefused text n r
  unfolding run_answer read_run run_routine
  run-listed = refused-case run_checks _ run_routine text n (λ e r. both (verdict-refused _ _ r) (run_ends (routine_of (lines text)) r)) r

pub answers-listed : AnswersListed
answers-listed text n r = (bound-listed text n r, merge-listed text n r, run-listed text n r)

-- ---- as it is told

module _ (P : Refusal → Type 0) (a : Answer) (h : (r : Refusal) → (a ≡ refused r) ↔ P r) where
  pub listed-alone : (told : Result ℕ Refusal) → told ≡ answer_of a → ListedAlone (Refuses told) P
  unfolding answer_of
  listed-alone told e n p = (λ (r, f, i, j). (r, (h r).0 (from a (sym e ∙ f)), i, j), λ (r, f, i, j). (r, e ∙ ap answer_of ((h r).1 f), i, j))
    where
      from : (b : Answer) {r : Refusal} → answer_of b ≡ Err r → b ≡ refused r
      from (reported bs) f = let z : ◌≡◌ {A = ℕ} 0 1 = cc in absurd (omega arith)
      from (refused x) {r} f = let k : x ≡ r = cc in ap refused k
