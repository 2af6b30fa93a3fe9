-- The trace in code is that of the definition. Assumes nothing.
use Rattle.std.specs.Prelude.{Err, Ok, Result}
use Prim.Native.Nat.{ℕ, ◌+◌, ◌≤◌}
use mathlib.Core.Path.{◌≡◌, sym, ap, ◌∙◌}
use mathlib.Core.List.{List}
use native.Mathlib.Omega.{arith}
use lib.ListN.{length, length-append}
use Rattle.refusals.specs.declared.Refusal.{Refusal}
use Rattle.bound_theory.specs.Run.{run}
use Rattle.run_loop.specs.declared.Ran.{Ran}
use Rattle.run_loop.specs.HeldContract.{judged, verdict_of}
use Rattle.file_format.specs.Routine.{Routine, read_run}
use Rattle.file_format.specs.Routine as readings
use Rattle.replay_trace.specs.Traces.{Entry}
use Rattle.answers.specs.Answers.{reported, refused, memory, answer_of, report_length, Delivers}
use Rattle.answers.proofs.AnswerLaws.{reading-passed, delivers}
use Rattle.trace_theory.specs.Trace.{trace, entries_text, trace_names, trace_text}
use Rattle.trace_entry.specs.Answers.{trace_memory, of_run, trace_routine, trace_answer}
use Rattle.trace_entry.specs.Promises.{TracesRun}
use Rattle.trace_entry.specs.Held.{Roomy}
use Rattle.trace_entry.proofs.Theorems.{traces-kept, traces-fit}

-- ---- the text

-- the names, and the lines under them
pub text-length : (es : List Entry) → length (trace_text es) ≡ 10 + length (entries_text es)
unfolding trace_text
text-length es = length-append trace_names (entries_text es)

-- ---- a routine

module _ (x : Routine) (r : Ran) (e : verdict_of r ≡ run x.code x.budget x.start x.answers) where
  pub ran-traced : r.verdict ≡ Ok tt → trace_routine x ≡ reported (trace_text (trace x.code x.budget x.start x.answers))
  unfolding verdict_of judged trace_routine of_run
  ran-traced h =
      ap (of_run (trace_text (trace x.code x.budget x.start x.answers))) (sym e)
      ∙ ap (λ v. of_run (trace_text (trace x.code x.budget x.start x.answers)) (judged v r)) h

  pub ran-refused : (y : Refusal) → r.verdict ≡ Err y → trace_routine x ≡ refused y
  unfolding verdict_of judged trace_routine of_run
  ran-refused y h =
      ap (of_run (trace_text (trace x.code x.budget x.start x.answers))) (sym e)
      ∙ ap (λ v. of_run (trace_text (trace x.code x.budget x.start x.answers)) (judged v r)) h

-- ---- a text

module _ (text : List ℕ) (n : ℕ) where
  pub trace-passed : 32768 ≤ n → (x : Routine) → read_run text ≡ readings.routine x → trace_answer text n ≡ trace_routine x
  unfolding trace_answer
  trace-passed = reading-passed trace_routine (read_run text) trace_memory n

  pub trace-roomy : 32768 ≤ n → (x : Routine) → read_run text ≡ readings.routine x → Roomy (trace_routine x) n
  trace-roomy h x e bs q = let f = traces-fit text n bs (trace-passed h x e ∙ q) in omega (arith, f.1, f.2)

  -- what the equations of an answer give besides
  pub trace-keeps : (former out : List ℕ) (r : Result ℕ Refusal) → (r ≡ answer_of (trace_answer text n)) × (out ≡ memory (trace_answer text n) former) →
      (r ≡ answer_of (trace_answer text n)) × ((out ≡ memory (trace_answer text n) former) × Delivers (report_length r) out (TracesRun text))
  trace-keeps former out r (e, m) = (e, (m, delivers (TracesRun text) (trace_answer text n) (traces-kept text n) r e former out m))
