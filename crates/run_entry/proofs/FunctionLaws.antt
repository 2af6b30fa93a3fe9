-- What the run answers to a routine and to a text. Assumes nothing.
use Rattle.std.specs.Prelude.{Err, Ok, Result}
use Prim.Native.Nat.{ℕ, ◌≤◌}
use mathlib.Core.Path.{◌≡◌, sym, ap, ◌∙◌}
use mathlib.Core.List.{List}
use Rattle.refusals.specs.declared.Refusal.{Refusal}
use Rattle.bound_theory.specs.Tree.{Report}
use Rattle.bound_theory.specs.Tree as bounds
use Rattle.run_loop.specs.declared.Ran.{Ran}
use Rattle.run_loop.specs.HeldContract.{judged, verdict_of}
use Rattle.file_format.specs.Routine.{read_run}
use Rattle.file_format.specs.Routine as readings
use Rattle.file_format.proofs.RowLaws.{run-passes}
use Rattle.report.specs.HeldPath.{report_of}
use Rattle.report.proofs.DecodeLaws.{report-of-run}
use Rattle.answers.specs.Answers.{reported, memory_limit, memory, answer_of, report_length, Delivers}
use Rattle.answers.specs.Answers as answers
use Rattle.answers.proofs.AnswerLaws.{reading-passed, delivers}
use Rattle.report_theory.specs.Answers.{of_verdict, run_routine, run_answer}
use Rattle.report_theory.specs.Promises.{WithinReport, RunAccepted}
use Rattle.report_theory.specs.Listed.{RunRefused, Refuses, ListedAlone}
use Rattle.report_theory.proofs.AnswerLaws.{runs-kept, run-reported}
use Rattle.report_theory.proofs.ListedLaws.{run-listed, listed-alone}
use Rattle.report.specs.Held.{Printable}
use Rattle.report_theory.proofs.FoundLaws.{printable}

-- ---- what the run's answer gives

module _ (text : Report → List ℕ) (r : Ran) (v : bounds.Verdict) (e : verdict_of r ≡ v) where
  pub ran-reported : r.verdict ≡ Ok tt → of_verdict text v ≡ reported (text (report_of r.cycles r.words r.depth r.steps 1))
  unfolding verdict_of judged of_verdict
  ran-reported s =
      ap (of_verdict text) (sym e) ∙ ap (λ d. of_verdict text (judged d r)) s ∙ ap (λ z. reported (text z)) (sym (report-of-run r.cycles r.words r.depth r.steps))

  pub ran-refused : (x : Refusal) → r.verdict ≡ Err x → of_verdict text v ≡ answers.refused x
  unfolding verdict_of judged of_verdict
  ran-refused x s = ap (of_verdict text) (sym e) ∙ ap (λ d. of_verdict text (judged d r)) s

-- ---- a text

module _ (text : List ℕ) (n : ℕ) where
  pub run-passed : 128 ≤ n → (x : readings.Routine) → read_run text ≡ readings.routine x → run_answer text n ≡ run_routine x
  unfolding run_answer
  run-passed = reading-passed run_routine (read_run text) memory_limit n

  pub run-printable : 128 ≤ n → (x : readings.Routine) → read_run text ≡ readings.routine x → Printable (run_routine x) x.tick n
  run-printable h x e = let p = run-passes text x e in printable text x p.0 p.2 n h (run_routine x) (λ bs q. run-reported text n bs (run-passed h x e ∙ q))

-- ---- the promises

module _ (text : List ℕ) (n : ℕ) (former out : List ℕ) (r : Result ℕ Refusal) where
  -- what the equations of an answer give besides
  pub run-keeps : (r ≡ answer_of (run_answer text n)) × (out ≡ memory (run_answer text n) former) →
      (r ≡ answer_of (run_answer text n)) × ((out ≡ memory (run_answer text n) former)
      × (Delivers (report_length r) out (WithinReport text) × (RunAccepted text n (report_length r) × ListedAlone (Refuses r) (RunRefused text n))))
  run-keeps (e, m) = (
    e,
    (
      m,
      (
        delivers (WithinReport text) (run_answer text n) (λ bs q. runs-kept.0 text n bs q) r e former out m,
        (rw e (runs-kept.1 text n), listed-alone (RunRefused text n) (run_answer text n) (run-listed text n) r e),
      ),
    ),
  )
