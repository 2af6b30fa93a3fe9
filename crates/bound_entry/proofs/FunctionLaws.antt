-- What the bound answers to a text. Assumes nothing.
use Rattle.refusals.specs.declared.Refusal.{Refusal}
use Rattle.std.specs.Prelude.{Result}
use Prim.Native.Nat.{ℕ, ◌≤◌}
use mathlib.Core.Path.{◌≡◌, ◌∙◌}
use mathlib.Core.List.{List}
use Rattle.file_format.specs.Routine.{read_bound}
use Rattle.file_format.specs.Routine as readings
use Rattle.file_format.proofs.RowLaws.{read-passes}
use Rattle.answers.specs.Answers.{memory_limit, memory, answer_of, report_length, Delivers}
use Rattle.answers.proofs.AnswerLaws.{reading-passed, delivers}
use Rattle.report_theory.specs.Answers.{bound_routine, bound_answer}
use Rattle.report_theory.specs.Promises.{SafeReport, ExactReport}
use Rattle.report_theory.specs.Listed.{BoundRefused, Refuses, ListedAlone}
use Rattle.report_theory.specs.Refined.{MonotoneReport, KnownReport}
use Rattle.report_theory.proofs.AnswerLaws.{reports-kept, bound-reported}
use Rattle.report_theory.proofs.RefinedLaws.{bounds-refined}
use Rattle.report_theory.proofs.ListedLaws.{bound-listed, listed-alone}
use Rattle.report.specs.Held.{Printable}
use Rattle.report_theory.proofs.FoundLaws.{printable}

-- ---- a text

module _ (text : List ℕ) (n : ℕ) where
  pub bound-passed : 128 ≤ n → (x : readings.Routine) → read_bound text ≡ readings.routine x → bound_answer text n ≡ bound_routine x
  unfolding bound_answer
  bound-passed = reading-passed bound_routine (read_bound text) memory_limit n

  pub bound-printable : 128 ≤ n → (x : readings.Routine) → read_bound text ≡ readings.routine x → Printable (bound_routine x) x.tick n
  bound-printable h x e = let p = read-passes text x e in printable text x p.0 p.1 n h (bound_routine x) (λ bs q. bound-reported text n bs (bound-passed h x e ∙ q))

-- ---- the promises

module _ (text : List ℕ) (n : ℕ) (former out : List ℕ) (r : Result ℕ Refusal) where
  -- what the equations of an answer give besides
  pub bound-keeps : (r ≡ answer_of (bound_answer text n)) × (out ≡ memory (bound_answer text n) former) →
      (r ≡ answer_of (bound_answer text n)) × ((out ≡ memory (bound_answer text n) former)
      × (Delivers (report_length r) out (SafeReport text) × (Delivers (report_length r) out (ExactReport text)
      × (Delivers (report_length r) out (MonotoneReport text) × (Delivers (report_length r) out (KnownReport text)
      × ListedAlone (Refuses r) (BoundRefused text n))))))
  bound-keeps (e, m) = (
    e,
    (
      m,
      (
        delivers (SafeReport text) (bound_answer text n) (λ bs q. (reports-kept text n bs q).0) r e former out m,
        (
          delivers (ExactReport text) (bound_answer text n) (λ bs q. (reports-kept text n bs q).1) r e former out m,
          (
            delivers (MonotoneReport text) (bound_answer text n) (λ bs q. (bounds-refined text n bs q).0) r e former out m,
            (
              delivers (KnownReport text) (bound_answer text n) (λ bs q. (bounds-refined text n bs q).1) r e former out m,
              listed-alone (BoundRefused text n) (bound_answer text n) (bound-listed text n) r e,
            ),
          ),
        ),
      ),
    ),
  )
