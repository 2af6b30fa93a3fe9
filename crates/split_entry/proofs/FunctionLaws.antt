-- What the bound by cases answers to a routine and to two texts, and how large that is. Assumes nothing.
use Rattle.std.specs.Prelude.{Err, Ok, Result, ⊤}
use Prim.Native.Nat.{ℕ, ◌≤◌}
use mathlib.Core.Path.{◌≡◌, refl, sym, ap, ◌∙◌}
use mathlib.Core.List.{List}
use native.Mathlib.Omega.{arith}
use lib.ListN.{length}
use Rattle.refusals.specs.declared.Refusal.{Refusal}
use Rattle.refusals.specs.Refusals.{place}
use Rattle.text.specs.Text.{lines}
use Rattle.bound_theory.specs.Tree.{Report, Verdict}
use Rattle.bound_theory.specs.Tree as verdicts
use Rattle.file_format.specs.Rows.{Passes}
use Rattle.file_format.specs.Routine.{Routine, routine_of, read_bound}
use Rattle.file_format.specs.Routine as readings
use Rattle.file_format.proofs.RowLaws.{read-passes}
use Rattle.file_format.proofs.PlaceLaws.{read-bound-place}
use Rattle.report.specs.Report.{bound_text}
use Rattle.report.proofs.ReportLaws.{bound-small, bound-fits}
use Rattle.answers.specs.Answers.{reported, refused, memory_limit}
use Rattle.answers.proofs.AnswerLaws.{never, from-reading, place-from, reading-passed}
use Rattle.report_theory.specs.Answers.{of_verdict}
use Rattle.report_theory.proofs.AnswerLaws.{from-refused}
use Rattle.report_theory.proofs.SizeLaws.{ticks}
use Rattle.report.specs.Held.{Printable}
use Rattle.report_theory.proofs.FoundLaws.{printable}
use Rattle.split_theory.specs.Split.{split}
use Rattle.split_cuts.specs.Cuts.{cuts_of}
use Rattle.split_cuts.proofs.PlaceLaws.{cuts-place}
use Rattle.split_entry.specs.Answers.{cuts_checked, checked, cases_routine, split_routine, split_answer}
use Rattle.split_entry.proofs.SizeLaws.{split-limited, split-place}

-- ---- the cuts

module _ (text cuts : List ℕ) (x : Routine) where
  pub cuts-passed : cuts_checked text cuts ≡ Ok tt → split_routine text cuts x ≡ cases_routine cuts x
  unfolding split_routine checked
  cuts-passed e = ap (λ v. checked v (cases_routine cuts x)) e

  pub cuts-refused : (r : Refusal) → cuts_checked text cuts ≡ Err r → split_routine text cuts x ≡ refused r
  unfolding split_routine checked
  cuts-refused r e = ap (λ v. checked v (cases_routine cuts x)) e

-- ---- a text

module _ (text cuts : List ℕ) (n : ℕ) where
  pub split-passed : 128 ≤ n → (x : Routine) → read_bound text ≡ readings.routine x → split_answer text cuts n ≡ split_routine text cuts x
  unfolding split_answer
  split-passed = reading-passed (split_routine text cuts) (read_bound text) memory_limit n

-- ---- a report

-- the verdict of the bound by cases that a report comes from
pub record FromCases (cuts : List ℕ) (x : Routine) (bs : List ℕ) : Type 0 where
  pub report : Report
  pub accepts : split x.code (cuts_of cuts) x.start ≡ verdicts.accepted report
  pub prints : bs ≡ bound_text x.tick report

pub from-cases : (cuts : List ℕ) (x : Routine) (bs : List ℕ) → cases_routine cuts x ≡ reported bs → FromCases cuts x bs
unfolding cases_routine of_verdict
from-cases cuts x bs = go (split x.code (cuts_of cuts) x.start) refl
  where
    go : (v : Verdict) → split x.code (cuts_of cuts) x.start ≡ v → of_verdict (bound_text x.tick) v ≡ reported bs → FromCases cuts x bs
    go (verdicts.accepted q) h e = record { report = q; accepts = h; prints = cc }
    go (verdicts.refused r) h e = never r bs e

-- where an answer with a report comes from
pub record FromSplit (text cuts : List ℕ) (n : ℕ) (bs : List ℕ) : Type 0 where
  pub lent : memory_limit ≤ n
  pub routine : Routine
  pub reads : read_bound text ≡ readings.routine routine
  pub passes : cuts_checked text cuts ≡ Ok tt
  pub gives : FromCases cuts routine bs

pub from-split : (text cuts : List ℕ) (n : ℕ) (bs : List ℕ) → split_answer text cuts n ≡ reported bs → FromSplit text cuts n bs
unfolding split_answer split_routine checked
from-split text cuts n bs e =
    let a = from-reading (split_routine text cuts) (read_bound text) memory_limit n bs e in
    go a.lent a.routine a.reads (cuts_checked text cuts) refl a.gives
  where
    go : memory_limit ≤ n → (x : Routine) → read_bound text ≡ readings.routine x → (v : Result ⊤ Refusal) → cuts_checked text cuts ≡ v → checked v (cases_routine cuts x) ≡ reported bs → FromSplit text cuts n bs
    go l x reads (Ok tt) h e = record { lent = l; routine = x; reads = reads; passes = h; gives = from-cases cuts x bs e }
    go l x reads (Err r) h e = never r bs e

-- ---- how large a report is, and where a refusal is

module _ (text : List ℕ) (x : Routine) (passes : Passes (lines text)) (is : x ≡ routine_of (lines text)) (cuts bs : List ℕ) where
  pub cases-sized : cases_routine cuts x ≡ reported bs → (1 ≤ length bs) × (length bs ≤ memory_limit)
  unfolding bound_text
  cases-sized e =
      let f = from-cases cuts x bs e in
      let q = f.report in
      let k = bound-fits x.tick q (bound-small x.tick q (ticks text x passes is) (split-limited text x passes is (cuts_of cuts) q f.accepts)) in
      rw f.prints (omega arith, k)

pub cases-printable : (text cuts : List ℕ) (x : Routine) → Passes (lines text) → x ≡ routine_of (lines text) → (n : ℕ) → 128 ≤ n → Printable (cases_routine cuts x) x.tick n
cases-printable text cuts x passes is n h = printable text x passes is n h (cases_routine cuts x) (λ bs e. let (a, b) = cases-sized text x passes is cuts bs e in (a, b, h))

module _ (text cuts : List ℕ) (n : ℕ) where
  pub split-reported : (bs : List ℕ) → split_answer text cuts n ≡ reported bs → (1 ≤ length bs) × (length bs ≤ memory_limit) × (memory_limit ≤ n)
  unfolding split_answer
  split-reported bs e =
      let a = from-reading (split_routine text cuts) (read_bound text) memory_limit n bs e in
      let x = a.routine in
      let (passes, is, short) = read-passes text x a.reads in
      let f = from-split text cuts n bs e in
      let same : f.routine ≡ x = cc (f.reads, a.reads) in
      let (l, m) = cases-sized text x passes is cuts bs (sym (cuts-passed text cuts x f.passes) ∙ a.gives) in
      (l, m, a.lent)

  pub split-refusal-place : (r : Refusal) → split_answer text cuts n ≡ refused r → place r ≤ 62000
  unfolding split_answer split_routine checked cases_routine cuts_checked
  split-refusal-place r =
      place-from 62000 (split_routine text cuts) (read_bound text) memory_limit n r (λ r e. omega (arith, read-bound-place text r e)) (λ x e f. let (passes, is, short) = read-passes text x e in go x passes is (cuts_checked text cuts) refl f)
    where
      go : (x : Routine) → Passes (lines text) → x ≡ routine_of (lines text) → (v : Result ⊤ Refusal) → cuts_checked text cuts ≡ v → checked v (cases_routine cuts x) ≡ refused r → place r ≤ 62000
      go x passes is (Ok tt) h e = split-place text x passes is (cuts_of cuts) r (from-refused (bound_text x.tick) (split x.code (cuts_of cuts) x.start) r e)
      go x passes is (Err y) h e = let g : y ≡ r = cc in omega (arith, cuts-place _ cuts r (h ∙ ap Err g))
