-- The answer of a trace to a routine file and to a length of lent memory. (docs/ROUTINE-FILE.md, The trace of a run)
use Rattle.refusals.specs.Library.{ℕ, List}
use Rattle.bound_theory.specs.Terms.{Verdict, run}
use Rattle.answers.specs.Terms.{Routine, read_run, Answer, reported, refused, lending, of_reading}
use Rattle.bound_theory.specs.Tree as verdicts
use Rattle.trace_theory.specs.Trace.{trace, trace_text}

-- "Lent memory under 32,768 bytes is refusal 10"
abbrev pub trace_memory : ℕ
trace_memory = 32768

-- of the run's verdict: the trace, or the run's refusal
unfoldable pub of_run : List ℕ → Verdict → Answer
of_run made (verdicts.accepted q) = reported made
of_run made (verdicts.refused r) = refused r

-- the answer for a routine
unfoldable pub trace_routine : Routine → Answer
trace_routine x = of_run (trace_text (trace x.code x.budget x.start x.answers)) (run x.code x.budget x.start x.answers)

-- the answer to a text and to n lent bytes
unfoldable pub trace_answer : List ℕ → ℕ → Answer
trace_answer text n = lending trace_memory n (of_reading trace_routine (read_run text))
