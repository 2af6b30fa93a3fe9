-- What is promised of the bytes of a trace (`specs/Promises`), each proved by its name, and where a trace is refused. Assumes nothing.
use Rattle.std.specs.Prelude.{Ok}
use Prim.Native.Nat.{ℕ, ◌≤◌}
use mathlib.Core.Path.{◌≡◌, refl, sym, ap, subst, ◌∙◌}
use mathlib.Core.List.{List}
use native.Mathlib.Omega.{arith}
use lib.ListN.{length}
use Rattle.refusals.specs.declared.Refusal.{Refusal}
use Rattle.refusals.specs.Refusals.{place}
use Rattle.text.specs.Text.{bytes, lines}
use Rattle.text.proofs.TextLaws.{Every}
use Rattle.machine.specs.Forward.{Forward}
use Rattle.machine.proofs.AddressLaws.{Confined}
use Rattle.bound_theory.specs.Tree.{Report, Verdict}
use Rattle.bound_theory.specs.Tree as verdicts
use Rattle.bound_theory.specs.Run.{begin, run}
use Rattle.bound_theory.proofs.ForwardLaws.{forward-once}
use Rattle.bound_theory.proofs.PlaceLaws.{run-place}
use Rattle.file_format.specs.Rows.{Passes}
use Rattle.file_format.specs.Routine.{Routine, routine, routine_of, read_run}
use Rattle.file_format.proofs.RowLaws.{run-passes}
use Rattle.file_format.proofs.PassingLaws.{code-few}
use Rattle.file_format.proofs.BranchLaws.{passing-forward}
use Rattle.file_format.proofs.PlaceLaws.{read-run-place, confined, start_small}
use Rattle.report_theory.proofs.SizeLaws.{code-length, priced}
use Rattle.replay_trace.specs.Traces.{Entry, trace_acceptance, entries}
use Rattle.replay_steps.specs.Replay.{replay}
use Rattle.answers.specs.Answers.{reported, refused, memory_limit, of_acceptance}
use Rattle.answers.proofs.AnswerLaws.{never, from-reading, place-from}
use Rattle.replay_entry.specs.Answers.{outcome_text, replay_routine, replay_answer}
use Rattle.replay_entry.proofs.FunctionLaws.{replay-passed}
use Rattle.trace_theory.specs.Trace.{trace, trace_text}
use Rattle.trace_theory.specs.Promises.{Adds}
use Rattle.trace_theory.proofs.RecordingLaws.{recording-sums, recording-within}
use Rattle.trace_theory.proofs.TextLaws.{Ranged, text-short, text-some, text-read, text-accepted}
use Rattle.trace_theory.proofs.Theorems.{trace-agrees, trace-adds}
use Rattle.trace_entry.specs.Answers.{trace_memory, of_run, trace_routine, trace_answer}
use Rattle.trace_entry.specs.Promises.{TracesKept}

-- ---- what a trace comes from

record FromRun (made : List ℕ) (v : Verdict) (bs : List ℕ) : Type 0 where
  report : Report
  accepts : v ≡ verdicts.accepted report
  prints : made ≡ bs

from-run : (made : List ℕ) (v : Verdict) (bs : List ℕ) → of_run made v ≡ reported bs → FromRun made v bs
unfolding of_run
from-run made (verdicts.accepted q) bs e = record { report = q; accepts = refl; prints = cc }
from-run made (verdicts.refused r) bs e = never r bs e

from-refused : (made : List ℕ) (v : Verdict) (r : Refusal) → of_run made v ≡ refused r → v ≡ verdicts.refused r
unfolding of_run
from-refused made (verdicts.accepted q) r e = never r made (sym e)
from-refused made (verdicts.refused y) r e = let h : y ≡ r = cc in ap verdicts.refused h

-- the steps of the run of a routine
abbrev steps_of : Routine → List Entry
steps_of x = trace x.code x.budget x.start x.answers

-- ---- the steps of a passing text: no more than its code has lines, and each with few digits

module _ (text : List ℕ) (x : Routine) (passes : Passes (lines text)) (is : x ≡ routine_of (lines text)) where
  steps-few : length (steps_of x) ≤ 1024
  unfolding trace begin
  steps-few =
      let forward : Forward x.code = rw (← is) at (passing-forward (lines text) passes) in
      let short : length x.code.instructions ≤ 1024 = rw (is, code-length) (code-few (lines text) passes.layout) in
      omega (arith, (recording-sums x.code x.budget (begin x.start x.answers)).steps, (forward-once x.code forward).steps x.start x.answers x.budget)

  steps-ranged : Every Ranged (steps_of x)
  unfolding trace begin
  steps-ranged =
      let near : Confined 62000 x.code = rw is (confined (lines text) passes) in
      let low : x.start.at ≤ 62000 = rw is (start_small (lines text) passes) in
      recording-within 62000 196605 510 x.code near (priced text x passes is) x.budget (begin x.start x.answers) low

  trace-passes : trace_acceptance (trace_text (steps_of x)) ≡ Ok tt
  trace-passes = text-accepted steps-ranged (omega (arith, steps-few))

  trace-fits : length (trace_text (steps_of x)) ≤ 13322
  trace-fits = omega (arith, text-short steps-ranged, steps-few)

-- ---- the promises

-- it fits (1,024 lines of at most 5 and 6 digits in 32,768 bytes), and the memory was lent
abbrev pub TracesFit : Type 0
TracesFit = (text : List ℕ) (n : ℕ) (bs : List ℕ) → trace_answer text n ≡ reported bs → (1 ≤ length bs) × (length bs ≤ trace_memory) × (trace_memory ≤ n)

pub traces-fit : TracesFit
unfolding trace_answer trace_routine
traces-fit text n bs e =
    let a = from-reading trace_routine (read_run text) trace_memory n bs e in
    let x = a.routine in
    let v = from-run (trace_text (steps_of x)) (run x.code x.budget x.start x.answers) bs a.gives in
    let (p, k, is, short) = run-passes text x a.reads in
    let z = ap length v.prints in
    (omega (arith, text-some (steps-ranged text x p is)), omega (arith, trace-fits text x p is), a.lent)

-- a replay says that a trace which is accepted and records the steps of the run agrees
says-agreed : (text bs : List ℕ) (x : Routine) → read_run text ≡ routine x → trace_acceptance bs ≡ Ok tt → entries bs ≡ steps_of x → (n : ℕ) → memory_limit ≤ n → replay_answer text bs n ≡ reported (bytes "AGREES\n")
unfolding replay_routine of_acceptance outcome_text
says-agreed text bs x reads passes records n h =
    replay-passed text bs n h x reads
    ∙ ap (of_acceptance (outcome_text (replay x.code x.start x.answers (entries bs)))) passes
    ∙ ap (λ es. reported (outcome_text (replay x.code x.start x.answers es))) records
    ∙ ap (λ o. reported (outcome_text o)) (trace-agrees x.code x.budget x.start x.answers)

pub traces-kept : TracesKept
unfolding trace_answer trace_routine
traces-kept text n bs e =
    let a = from-reading trace_routine (read_run text) trace_memory n bs e in
    let x = a.routine in
    let v = from-run (trace_text (steps_of x)) (run x.code x.budget x.start x.answers) bs a.gives in
    let (p, k, is, short) = run-passes text x a.reads in
    let records : entries bs ≡ steps_of x = ap entries (sym v.prints) ∙ text-read (steps-ranged text x p is) in
    let passes : trace_acceptance bs ≡ Ok tt = ap trace_acceptance (sym v.prints) ∙ trace-passes text x p is in (
      x,
      v.report,
      record {
        reads = a.reads;
        accepts = v.accepts;
        prints = sym v.prints;
        records = records;
        agrees = says-agreed text bs x a.reads passes records;
        adds = subst (λ es. Adds x.code x.start x.answers es v.report) (sym records) (trace-adds x.code x.budget x.start x.answers v.report v.accepts);
      },
    )

-- ---- its refusals

pub trace-place : (text : List ℕ) (n : ℕ) (r : Refusal) → trace_answer text n ≡ refused r → place r ≤ 62000
unfolding trace_answer trace_routine
trace-place text n r =
    place-from 62000 trace_routine (read_run text) trace_memory n r (λ r e. omega (arith, read-run-place text r e)) (λ x e f.
    let (p, k, is, short) = run-passes text x e in
    let v = from-refused (trace_text (steps_of x)) (run x.code x.budget x.start x.answers) r f in
    run-place 62000 x.code (rw is (confined (lines text) p)) x.budget x.start (rw is (start_small (lines text) p)) x.answers r v)
