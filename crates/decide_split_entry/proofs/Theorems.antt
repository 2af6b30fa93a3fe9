-- The statements of `specs/Promises`, each proved by its name, and where the decision by cases refuses. Assumes nothing.
use Rattle.std.specs.Prelude.{Err, Ok, Result, ⊤}
use Prim.Native.Nat.{ℕ, ◌≤◌}
use mathlib.Core.Path.{◌≡◌, ap}
use mathlib.Core.Bool.{Bool, true, false, cond}
use mathlib.Core.List.{List}
use native.Mathlib.Omega.{arith}
use lib.Dec.{ltb}
use Rattle.refusals.specs.declared.Refusal.{Refusal}
use Rattle.refusals.specs.declared.Refusal.TheVariants.{ReportMemory}
use Rattle.refusals.specs.Refusals.{place}
use Rattle.text.specs.Text.{lines}
use Rattle.bound_theory.specs.Tree.{Report, Verdict}
use Rattle.file_format.specs.Routine.{Routine, Reading, read_bound}
use Rattle.file_format.specs.Routine as readings
use Rattle.file_format.proofs.RowLaws.{read-passes}
use Rattle.file_format.proofs.BranchLaws.{passing-forward, passing-closed}
use Rattle.report.specs.Report.{bound_text}
use Rattle.answers.specs.Answers.{Answer, refused, memory_limit, of_reading}
use Rattle.report_theory.specs.Answers.{of_verdict}
use Rattle.report_theory.proofs.AnswerLaws.{from-refused}
use Rattle.split_theory.specs.Split.{split}
use Rattle.split_theory.proofs.Theorems.{split-interruptible, split-exact}
use Rattle.split_cuts.specs.Cuts.{cuts_of}
use Rattle.split_entry.specs.Answers.{cuts_checked, checked, cases_routine, split_routine, split_answer}
use Rattle.split_entry.proofs.Theorems.{split_places}
use Rattle.decide_report.specs.declared.Source.TheVariants.{Split}
use Rattle.decide_report.specs.Decision.{fits, undecided, decision_text}
use Rattle.decide_report.proofs.DecisionLaws.{ruled-fits, ruled-undecided, says-ruling}
use Rattle.decide_split_entry.specs.Answers.{decide_cases, decide_split_routine, decide_split_answer}
use Rattle.decide_split_entry.specs.Promises.{SplitDecisionsKept, SplitDecisionRefused}
use Rattle.decide_split_entry.proofs.FunctionLaws.{from-decision}

pub split-decisions-kept : SplitDecisionsKept
split-decisions-kept text cuts n bytes e =
    let d = from-decision text cuts n bytes e in
    let x = d.routine in
    let q = d.report in
    let is = d.is in
    let p = read-passes text x is.reads in
    let forward = rw (← p.1) at (passing-forward (lines text) p.0) in
    let closed = rw (← p.1) at (passing-closed (lines text) p.0) in (
      λ says.
          let h = ruled-fits Split x.tick q.cycles (says-ruling Split x.tick q fits bytes is.prints says) in (
            x,
            q,
            is,
            λ s g answers m.
                let k = split-interruptible x.code forward closed (cuts_of cuts) x.start q is.accepts s g answers m in
                record { moves = k.moves; cycles = omega (arith, k.cycles); words = omega (arith, k.words); depth = k.depth; heights = k.heights; steps = k.steps; stops = k.stops },
          ),
      λ says.
          let h = ruled-undecided Split x.tick q.cycles (says-ruling Split x.tick q undecided bytes is.prints says) in
          (x, q, is, split-exact x.code (cuts_of cuts) x.start q is.accepts, h.1),
    )

-- what is printed of the figures does not matter to a refusal
same-refusal : (f g : Report → List ℕ) (v : Verdict) (r : Refusal) → of_verdict f v ≡ refused r → of_verdict g v ≡ refused r
unfolding of_verdict
same-refusal f g v r e = ap (of_verdict g) (from-refused f v r e)

pub split-decision-refused : SplitDecisionRefused
unfolding decide_split_answer split_answer of_reading decide_split_routine split_routine checked decide_cases cases_routine
split-decision-refused text cuts n r = (
  to (ltb n memory_limit) (read_bound text) (cuts_checked text cuts),
  from (ltb n memory_limit) (read_bound text) (cuts_checked text cuts),
)
  where
    by : (Routine → Answer) → Result ⊤ Refusal → Bool → Reading → Answer
    by f v b m = cond b (refused ReportMemory) (of_reading (λ x. checked v (f x)) m)

    to : (b : Bool) (m : Reading) (v : Result ⊤ Refusal) → by (decide_cases cuts) v b m ≡ refused r → by (cases_routine cuts) v b m ≡ refused r
    to true m v e = e
    to false (readings.unread y) v e = e
    to false (readings.routine x) (Err y) e = e
    to false (readings.routine x) (Ok tt) e = same-refusal _ (bound_text x.tick) (split x.code (cuts_of cuts) x.start) r e

    from : (b : Bool) (m : Reading) (v : Result ⊤ Refusal) → by (cases_routine cuts) v b m ≡ refused r → by (decide_cases cuts) v b m ≡ refused r
    from true m v e = e
    from false (readings.unread y) v e = e
    from false (readings.routine x) (Err y) e = e
    from false (readings.routine x) (Ok tt) e = same-refusal _ (decision_text Split x.tick) (split x.code (cuts_of cuts) x.start) r e

pub decide-split-place : (text cuts : List ℕ) (n : ℕ) (r : Refusal) → decide_split_answer text cuts n ≡ refused r → place r ≤ 62000
decide-split-place text cuts n r e = split_places text cuts n r ((split-decision-refused text cuts n r).0 e)
