-- What the merging bound answers to a text. Assumes nothing.
use Rattle.refusals.specs.declared.Refusal.{Refusal}
use Rattle.std.specs.Prelude.{Result}
use Prim.Native.Nat.{ℕ, ◌≤◌}
use mathlib.Core.Path.{◌≡◌, ◌∙◌}
use mathlib.Core.List.{List}
use Rattle.file_format.specs.Routine.{read_bound}
use Rattle.file_format.specs.Routine as readings
use Rattle.file_format.proofs.RowLaws.{read-passes}
use Rattle.answers.specs.Answers.{memory_limit, memory, answer_of, report_length, Delivers}
use Rattle.answers.proofs.AnswerLaws.{reading-passed, delivers}
use Rattle.report_theory.specs.Answers.{merge_routine, merge_answer}
use Rattle.report_theory.specs.Promises.{SafeMerge, ExactMerge, AboveMerge}
use Rattle.report_theory.specs.Listed.{MergeRefused, Refuses, ListedAlone}
use Rattle.report_theory.specs.Refined.{MonotoneMerge, KnownMerge}
use Rattle.report_theory.proofs.AnswerLaws.{merges-kept, merge-reported}
use Rattle.report_theory.proofs.RefinedLaws.{merges-refined}
use Rattle.report_theory.proofs.ListedLaws.{merge-listed, listed-alone}
use Rattle.report.specs.Held.{Printable}
use Rattle.report_theory.proofs.FoundLaws.{printable}

-- ---- a text

module _ (text : List ℕ) (n : ℕ) where
  pub merge-passed : 128 ≤ n → (x : readings.Routine) → read_bound text ≡ readings.routine x → merge_answer text n ≡ merge_routine x
  unfolding merge_answer
  merge-passed = reading-passed merge_routine (read_bound text) memory_limit n

  pub merge-printable : 128 ≤ n → (x : readings.Routine) → read_bound text ≡ readings.routine x → Printable (merge_routine x) x.tick n
  merge-printable h x e = let p = read-passes text x e in printable text x p.0 p.1 n h (merge_routine x) (λ bs q. merge-reported text n bs (merge-passed h x e ∙ q))

-- ---- the promises

module _ (text : List ℕ) (n : ℕ) (former out : List ℕ) (r : Result ℕ Refusal) where
  -- what the equations of an answer give besides
  pub merge_keeps : (r ≡ answer_of (merge_answer text n)) × (out ≡ memory (merge_answer text n) former) →
      (r ≡ answer_of (merge_answer text n)) × ((out ≡ memory (merge_answer text n) former)
      × (Delivers (report_length r) out (SafeMerge text) × (Delivers (report_length r) out (ExactMerge text)
      × (Delivers (report_length r) out (MonotoneMerge text) × (Delivers (report_length r) out (KnownMerge text)
      × (Delivers (report_length r) out (AboveMerge text) × ListedAlone (Refuses r) (MergeRefused text n)))))))
  merge_keeps (e, m) = (
    e,
    (
      m,
      (
        delivers (SafeMerge text) (merge_answer text n) (λ bs q. (merges-kept text n bs q).0) r e former out m,
        (
          delivers (ExactMerge text) (merge_answer text n) (λ bs q. (merges-kept text n bs q).1) r e former out m,
          (
            delivers (MonotoneMerge text) (merge_answer text n) (λ bs q. (merges-refined text n bs q).0) r e former out m,
            (
              delivers (KnownMerge text) (merge_answer text n) (λ bs q. (merges-refined text n bs q).1) r e former out m,
              (
                delivers (AboveMerge text) (merge_answer text n) (λ bs q. (merges-kept text n bs q).2) r e former out m,
                listed-alone (MergeRefused text n) (merge_answer text n) (merge-listed text n) r e,
              ),
            ),
          ),
        ),
      ),
    ),
  )
