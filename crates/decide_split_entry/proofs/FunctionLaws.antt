-- What the decision by cases answers to a routine and to two texts, and how large that is. Assumes nothing.
use Rattle.std.specs.Prelude.{Err, Ok, Result, ⊤}
use Prim.Native.Nat.{ℕ, ◌≤◌}
use mathlib.Core.Path.{◌≡◌, refl, sym, ap}
use mathlib.Core.List.{List}
use native.Mathlib.Omega.{arith}
use lib.ListN.{length}
use Rattle.refusals.specs.declared.Refusal.{Refusal}
use Rattle.text.specs.Text.{lines}
use Rattle.bound_theory.specs.Tree.{Report, Verdict}
use Rattle.bound_theory.specs.Tree as verdicts
use Rattle.bound_figures.specs.declared.Found.{Found}
use Rattle.bound_figures.specs.HeldFigures.{Shows}
use Rattle.file_format.specs.Rows.{Passes}
use Rattle.file_format.specs.Routine.{Routine, routine_of, read_bound}
use Rattle.file_format.specs.Routine as readings
use Rattle.file_format.proofs.RowLaws.{read-passes}
use Rattle.file_format.proofs.RangeLaws.{tick-small}
use Rattle.report.proofs.ReportLaws.{bound-small}
use Rattle.answers.specs.Answers.{reported, refused, memory_limit}
use Rattle.answers.proofs.AnswerLaws.{never, from-reading, reading-passed}
use Rattle.report_theory.specs.Answers.{of_verdict}
use Rattle.report_theory.proofs.SizeLaws.{ticks}
use Rattle.split_theory.specs.Split.{split}
use Rattle.split_cuts.specs.Cuts.{cuts_of}
use Rattle.split_entry.specs.Answers.{cuts_checked, checked}
use Rattle.split_entry.proofs.SizeLaws.{split-limited}
use Rattle.decide_report.specs.declared.Source.TheVariants.{Split}
use Rattle.decide_report.specs.Decision.{decision_text}
use Rattle.decide_report.specs.Held.{report_in, Roomy}
use Rattle.decide_report.proofs.DecisionLaws.{decision-fits, decision-some}
use Rattle.decide_entry.proofs.FunctionLaws.{shown-accepted, shown-refused}
use Rattle.decide_split_entry.specs.Answers.{decide_cases, decide_split_routine, decide_split_answer}
use Rattle.decide_split_entry.specs.Promises.{DecidedByCases}

-- ---- a routine, by the figures found

module _ (cuts : List ℕ) (x : Routine) (f : Found) (s : Shows f (split x.code (cuts_of cuts) x.start)) where
  pub cases-decide : f.verdict ≡ Ok tt → decide_cases cuts x ≡ reported (decision_text Split x.tick (report_in f))
  unfolding decide_cases of_verdict
  cases-decide e = ap (of_verdict (decision_text Split x.tick)) (shown-accepted f (split x.code (cuts_of cuts) x.start) s e)

  pub cases-refuse : (r : Refusal) → f.verdict ≡ Err r → decide_cases cuts x ≡ refused r
  unfolding decide_cases of_verdict
  cases-refuse r e = ap (of_verdict (decision_text Split x.tick)) (shown-refused f (split x.code (cuts_of cuts) x.start) s r e)

-- ---- the cuts

module _ (text cuts : List ℕ) (x : Routine) where
  pub cuts-passed : cuts_checked text cuts ≡ Ok tt → decide_split_routine text cuts x ≡ decide_cases cuts x
  unfolding decide_split_routine checked
  cuts-passed e = ap (λ v. checked v (decide_cases cuts x)) e

  pub cuts-refused : (r : Refusal) → cuts_checked text cuts ≡ Err r → decide_split_routine text cuts x ≡ refused r
  unfolding decide_split_routine checked
  cuts-refused r e = ap (λ v. checked v (decide_cases cuts x)) e

-- ---- a text

module _ (text cuts : List ℕ) (n : ℕ) where
  pub decide-split-passed : 128 ≤ n → (x : Routine) → read_bound text ≡ readings.routine x → decide_split_answer text cuts n ≡ decide_split_routine text cuts x
  unfolding decide_split_answer
  decide-split-passed = reading-passed (decide_split_routine text cuts) (read_bound text) memory_limit n

-- ---- a decision

-- the verdict of the bound by cases that a decision comes from
record FromCases (cuts : List ℕ) (x : Routine) (bs : List ℕ) : Type 0 where
  report : Report
  accepts : split x.code (cuts_of cuts) x.start ≡ verdicts.accepted report
  prints : bs ≡ decision_text Split x.tick report

from-cases : (cuts : List ℕ) (x : Routine) (bs : List ℕ) → decide_cases cuts x ≡ reported bs → FromCases cuts x bs
unfolding decide_cases of_verdict
from-cases cuts x bs = go (split x.code (cuts_of cuts) x.start) refl
  where
    go : (v : Verdict) → split x.code (cuts_of cuts) x.start ≡ v → of_verdict (decision_text Split x.tick) v ≡ reported bs → FromCases cuts x bs
    go (verdicts.accepted q) h e = record { report = q; accepts = h; prints = let k : decision_text Split x.tick q ≡ bs = cc in sym k }
    go (verdicts.refused r) h e = never r bs e

-- where an answer with a decision comes from
pub record FromDecision (text cuts : List ℕ) (n : ℕ) (bs : List ℕ) : Type 0 where
  pub lent : memory_limit ≤ n
  pub routine : Routine
  pub report : Report
  pub is : DecidedByCases text cuts bs routine report

pub from-decision : (text cuts : List ℕ) (n : ℕ) (bs : List ℕ) → decide_split_answer text cuts n ≡ reported bs → FromDecision text cuts n bs
unfolding decide_split_answer decide_split_routine checked
from-decision text cuts n bs e =
    let a = from-reading (decide_split_routine text cuts) (read_bound text) memory_limit n bs e in
    go a.lent a.routine a.reads (cuts_checked text cuts) refl a.gives
  where
    go : memory_limit ≤ n → (x : Routine) → read_bound text ≡ readings.routine x → (v : Result ⊤ Refusal) → cuts_checked text cuts ≡ v → checked v (decide_cases cuts x) ≡ reported bs → FromDecision text cuts n bs
    go l x reads (Ok tt) h e =
        let f = from-cases cuts x bs e in
        record { lent = l; routine = x; report = f.report; is = record { reads = reads; passes = h; accepts = f.accepts; prints = f.prints } }
    go l x reads (Err r) h e = never r bs e

-- ---- its size

module _ (text : List ℕ) (x : Routine) (passes : Passes (lines text)) (is : x ≡ routine_of (lines text)) (cuts : List ℕ) where
  cases-sized : (q : Report) → split x.code (cuts_of cuts) x.start ≡ verdicts.accepted q → length (decision_text Split x.tick q) ≤ memory_limit
  cases-sized q e = decision-fits Split x.tick q (rw is (tick-small passes)) (bound-small x.tick q (ticks text x passes is) (split-limited text x passes is (cuts_of cuts) q e))

  pub cases-roomy : (n : ℕ) → 128 ≤ n → Roomy (decide_cases cuts x) n
  cases-roomy n h bs e = let f = from-cases cuts x bs e in omega (arith, ap length f.prints, cases-sized f.report f.accepts)

pub decide-split-reported : (text cuts : List ℕ) (n : ℕ) (bs : List ℕ) → decide_split_answer text cuts n ≡ reported bs → (1 ≤ length bs) × (length bs ≤ memory_limit) × (memory_limit ≤ n)
decide-split-reported text cuts n bs e =
    let d = from-decision text cuts n bs e in
    let x = d.routine in
    let q = d.report in
    let (passes, is, short) = read-passes text x d.is.reads in
    let l = ap length d.is.prints in
    (omega (arith, l, decision-some Split x.tick q), omega (arith, l, cases-sized text x passes is cuts q d.is.accepts), d.lent)
