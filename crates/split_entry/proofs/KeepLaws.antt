-- What the equations of an answer of the bound by cases give besides. Assumes nothing.
use Rattle.refusals.specs.declared.Refusal.{Refusal}
use Rattle.std.specs.Prelude.{Result}
use Prim.Native.Nat.{ℕ}
use mathlib.Core.Path.{◌≡◌}
use mathlib.Core.List.{List}
use Rattle.answers.specs.Answers.{memory, answer_of, report_length, Delivers}
use Rattle.answers.proofs.AnswerLaws.{delivers}
use Rattle.report_theory.specs.Listed.{Refuses, ListedAlone}
use Rattle.report_theory.proofs.ListedLaws.{listed-alone}
use Rattle.split_entry.specs.Answers.{split_answer}
use Rattle.split_entry.specs.Promises.{SafeSplit, ExactSplit, BelowMerge, MoreCuts, MonotoneSplit}
use Rattle.split_entry.specs.Listed.{CasesRefused}
use Rattle.split_entry.proofs.ListedLaws.{splits-listed}
use Rattle.split_entry.proofs.Theorems.{splits-kept}

module _ (text cuts : List ℕ) (n : ℕ) (former out : List ℕ) (r : Result ℕ Refusal) where
  pub split-keeps : (r ≡ answer_of (split_answer text cuts n)) × (out ≡ memory (split_answer text cuts n) former) →
      (r ≡ answer_of (split_answer text cuts n)) × ((out ≡ memory (split_answer text cuts n) former)
      × (Delivers (report_length r) out (SafeSplit text cuts) × (Delivers (report_length r) out (ExactSplit text cuts)
      × (Delivers (report_length r) out (BelowMerge text cuts) × (Delivers (report_length r) out (MoreCuts text cuts) × (Delivers (report_length r) out (MonotoneSplit text cuts)
      × ListedAlone (Refuses r) (CasesRefused text cuts n)))))))
  split-keeps (e, m) = (
    e,
    (
      m,
      (
        delivers (SafeSplit text cuts) (split_answer text cuts n) (λ bs q. (splits-kept text cuts n bs q).0) r e former out m,
        (
          delivers (ExactSplit text cuts) (split_answer text cuts n) (λ bs q. (splits-kept text cuts n bs q).1) r e former out m,
          (
            delivers (BelowMerge text cuts) (split_answer text cuts n) (λ bs q. (splits-kept text cuts n bs q).2) r e former out m,
            (
              delivers (MoreCuts text cuts) (split_answer text cuts n) (λ bs q. (splits-kept text cuts n bs q).3) r e former out m,
              (
                delivers (MonotoneSplit text cuts) (split_answer text cuts n) (λ bs q. (splits-kept text cuts n bs q).4) r e former out m,
                listed-alone (CasesRefused text cuts n) (split_answer text cuts n) (splits-listed text cuts n) r e,
              ),
            ),
          ),
        ),
      ),
    ),
  )
