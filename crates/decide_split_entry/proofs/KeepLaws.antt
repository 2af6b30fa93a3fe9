-- What the equations of an answer of the decision by cases give besides. Assumes nothing.
use Rattle.refusals.specs.declared.Refusal.{Refusal}
use Rattle.std.specs.Prelude.{Result}
use Prim.Native.Nat.{ℕ}
use mathlib.Core.Path.{◌≡◌}
use mathlib.Core.List.{List}
use Rattle.answers.specs.Answers.{memory, answer_of, report_length, Delivers}
use Rattle.answers.proofs.AnswerLaws.{delivers}
use Rattle.decide_split_entry.specs.Answers.{decide_split_answer}
use Rattle.decide_split_entry.specs.Promises.{KeepsTickByCases, UndecidedByCases}
use Rattle.decide_split_entry.proofs.Theorems.{split-decisions-kept}

module _ (text cuts : List ℕ) (n : ℕ) (former out : List ℕ) (r : Result ℕ Refusal) where
  pub decide-split-keeps : (r ≡ answer_of (decide_split_answer text cuts n)) × (out ≡ memory (decide_split_answer text cuts n) former) →
      (r ≡ answer_of (decide_split_answer text cuts n)) × ((out ≡ memory (decide_split_answer text cuts n) former)
      × (Delivers (report_length r) out (KeepsTickByCases text cuts) × Delivers (report_length r) out (UndecidedByCases text cuts)))
  decide-split-keeps (e, m) = (
    e,
    (
      m,
      (
        delivers (KeepsTickByCases text cuts) (decide_split_answer text cuts n) (λ bs q. (split-decisions-kept text cuts n bs q).0) r e former out m,
        delivers (UndecidedByCases text cuts) (decide_split_answer text cuts n) (λ bs q. (split-decisions-kept text cuts n bs q).1) r e former out m,
      ),
    ),
  )
