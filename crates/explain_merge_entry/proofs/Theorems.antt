-- What an explanation of the merging bound says, proved. Assumes nothing.
use Prim.Native.Nat.{ℕ, ◌+◌, ◌-◌, ◌*◌, ◌≤◌}
use mathlib.Core.Path.{◌≡◌, refl, sym, ap, ◌∙◌}
use mathlib.Core.List.{List, ◌++◌, append_assoc}
use mathlib.Core.Logic.{◌↔◌}
use native.Mathlib.Omega.{arith}
use lib.ListN.{length, drop, length-append}
use Rattle.refusals.specs.declared.Refusal.{Refusal}
use Rattle.refusals.specs.Refusals.{place}
use Rattle.text.specs.Text.{Line, lines}
use Rattle.machine.specs.Machine.{State, Price, height}
use Rattle.machine.specs.Forward.{Forward}
use Rattle.machine.specs.Targets.{Closed}
use Rattle.bound_theory.specs.Tree.{Report, Verdict}
use Rattle.bound_theory.specs.Tree as verdicts
use Rattle.merge_theory.specs.Merge.{held, slot, merged}
use Rattle.merge_theory.specs.Ways.{table}
use Rattle.merge_theory.proofs.FigureLaws.{merged-place}
use Rattle.merge_theory.proofs.Theorems.{merged-exact}
use Rattle.merge_way.specs.Way.{costliest_way}
use Rattle.merge_way.specs.Promises.{Costliest}
use Rattle.merge_way.proofs.Theorems.{way-costliest}
use Rattle.file_format.specs.Layout.{body, layout}
use Rattle.file_format.specs.Rows.{Passes}
use Rattle.file_format.specs.Routine.{Routine, Reading, routine_of, read_bound}
use Rattle.file_format.specs.Routine as readings
use Rattle.file_format.proofs.RowLaws.{read-passes}
use Rattle.file_format.proofs.PassingLaws.{code-few}
use Rattle.file_format.proofs.BranchLaws.{passing-forward, passing-closed}
use Rattle.file_format.proofs.PlaceLaws.{read-bound-place, confined, start_small}
use Rattle.report.specs.Report.{bound_text}
use Rattle.report.proofs.ReportLaws.{bound-small, bound-fits}
use Rattle.report_theory.proofs.SizeLaws.{code-length, priced, ticks, merged-limited}
use Rattle.explain_lines.specs.Listing.{shown_lines, listing}
use Rattle.explain_lines.proofs.LengthLaws.{total, total-drop, total-lines}
use Rattle.answers.specs.Answers.{Answer, reported, refused, memory_limit, of_reading}
use Rattle.answers.proofs.AnswerLaws.{never, from-reading, place-from, lent-enough}
use Rattle.report_theory.specs.Answers.{of_verdict, merge_routine, merge_answer}
use Rattle.explain_entry.specs.Answers.{explanation_limit, entry_names}
use Rattle.explain_entry.proofs.EntryLaws.{last-cost, last-words}
use Rattle.explain_merge_entry.specs.Answers.{merge_explanation_text, merge_explained, explain_merge_routine, explain_merge_answer}
use Rattle.explain_merge_entry.specs.Promises.{MergeExplanationsKept, ExplainsMergingBound}
use Rattle.explain_merge_entry.proofs.LengthLaws.{way-fits}

-- ---- what an explanation comes from

record FromVerdict (ls : List Line) (x : Routine) (v : Verdict) (bs : List ℕ) : Type 0 where
  report : Report
  accepts : v ≡ verdicts.accepted report
  prints : merge_explanation_text ls x report ≡ bs

from-verdict : (ls : List Line) (x : Routine) (v : Verdict) (bs : List ℕ) → merge_explained ls x v ≡ reported bs → FromVerdict ls x v bs
unfolding merge_explained
from-verdict ls x (verdicts.accepted q) bs e = record { report = q; accepts = refl; prints = cc }
from-verdict ls x (verdicts.refused r) bs e = never r bs e

-- ---- the way

module _ (text : List ℕ) (x : Routine) (passes : Passes (lines text)) (is : x ≡ routine_of (lines text)) where
  pub forward : Forward x.code
  forward = rw (← is) at (passing-forward (lines text) passes)

  pub closed : Closed x.code
  closed = rw (← is) at (passing-closed (lines text) passes)

  costliest : (q : Report) → merged x.code x.start ≡ verdicts.accepted q → Costliest x.code x.start q (costliest_way x.code x.start)
  costliest q e = way-costliest x.code forward closed x.start q e

  code-short : length x.code.instructions ≤ 1024
  code-short = rw (is, code-length) (code-few (lines text) passes.layout)

  low : (q : Report) → merged x.code x.start ≡ verdicts.accepted q → (a : ℕ) (s : State) (p : Price) → slot (table x.code x.start a) ≡ held s p → height s ≤ 64
  low q e a s p f = omega (arith, (merged-exact x.code forward closed x.start q e).depth.most a s p f, (merged-limited text x passes is q e).depth)

  steps-fit : (q : Report) → merged x.code x.start ≡ verdicts.accepted q
      → length (listing (body (lines text)) x.code.first (shown_lines (costliest_way x.code x.start))) ≤ 23 * length x.code.instructions + total (drop (x.start.at - x.code.first) (body (lines text)))
  unfolding shown_lines
  steps-fit q e =
      let w = costliest q e in
      way-fits x.code forward (priced text x passes is) (body (lines text)) (table x.code x.start) (low q e) w.path (length x.code.instructions) 0 0 w.lines (omega (arith, code-short), omega (arith, code-short))

pub merge-explanations-kept : MergeExplanationsKept
unfolding explain_merge_answer explain_merge_routine merge_explanation_text
merge-explanations-kept text n bs e =
    let ls = body (lines text) in
    let a = from-reading (explain_merge_routine ls) (read_bound text) explanation_limit n bs e in
    let x = a.routine in
    let v = from-verdict ls x (merged x.code x.start) bs a.gives in
    let q = v.report in
    let p = read-passes text x a.reads in
    let moves = costliest_way x.code x.start in
    let w = costliest text x p.0 p.1 q v.accepts in (
      x,
      q,
      moves,
      record { reads = a.reads; accepts = v.accepts; way = w; prints = sym v.prints; last = last-cost moves ∙ w.attains; words = last-words moves },
    )

-- ---- its size

text-length : (ls : List Line) (x : Routine) (q : Report)
    → length (merge_explanation_text ls x q) ≡ length (bound_text x.tick q) + 33 + length (listing ls x.code.first (shown_lines (costliest_way x.code x.start)))
unfolding merge_explanation_text
text-length ls x q = simp length-append (omega arith)

body-short : (text : List ℕ) (k : ℕ) → total (drop k (body (lines text))) ≤ length text
unfolding body
body-short text k =
    omega (arith, total-drop k (drop (length layout) (lines text)), total-drop (length layout) (lines text), total-lines text)

-- whatever the text, what is explained fits, and the memory was lent
abbrev pub MergeExplanationsFit : Type 0
MergeExplanationsFit = (text : List ℕ) (n : ℕ) (bs : List ℕ) → explain_merge_answer text n ≡ reported bs → (1 ≤ length bs) × (length bs ≤ explanation_limit) × (explanation_limit ≤ n)

pub merge-explanations-fit : MergeExplanationsFit
unfolding explain_merge_answer explain_merge_routine
merge-explanations-fit text n bs e =
    let ls = body (lines text) in
    let a = from-reading (explain_merge_routine ls) (read_bound text) explanation_limit n bs e in
    let x = a.routine in
    let v = from-verdict ls x (merged x.code x.start) bs a.gives in
    let q = v.report in
    let p = read-passes text x a.reads in
    let m = code-short text x p.0 p.1 in
    let w = steps-fit text x p.0 p.1 q v.accepts in
    let b = body-short text (x.start.at - x.code.first) in
    let r = bound-fits x.tick q (bound-small x.tick q (ticks text x p.0 p.1) (merged-limited text x p.0 p.1 q v.accepts)) in
    let l = text-length ls x q in
    let z = ap length v.prints in
    (omega arith, omega (arith, p.2), a.lent)

-- ---- its refusals

from-refused : (ls : List Line) (x : Routine) (v : Verdict) (r : Refusal) → merge_explained ls x v ≡ refused r → v ≡ verdicts.refused r
unfolding merge_explained
from-refused ls x (verdicts.accepted q) r e = never r (merge_explanation_text ls x q) (sym e)
from-refused ls x (verdicts.refused y) r e = let h : y ≡ r = cc in ap verdicts.refused h

pub explain-merge-place : (text : List ℕ) (n : ℕ) (r : Refusal) → explain_merge_answer text n ≡ refused r → place r ≤ 62000
unfolding explain_merge_answer explain_merge_routine
explain-merge-place text n r =
    place-from 62000 (explain_merge_routine (body (lines text))) (read_bound text) explanation_limit n r (λ r e. omega (arith, read-bound-place text r e)) (λ x e f.
    let (p, is, short) = read-passes text x e in
    let v = from-refused (body (lines text)) x (merged x.code x.start) r f in
    merged-place 62000 x.code (rw is (confined (lines text) p).past) x.start (rw is (start_small (lines text) p)) r v)

-- ---- beside the merging bound

-- of a reading, by its cases
record Beside (a b : Answer) : Type 0 where
  refuses : (r : Refusal) → (a ≡ refused r) ↔ (b ≡ refused r)
  begins : (bs : List ℕ) → a ≡ reported bs → (report : List ℕ) × (rest : List ℕ) × (b ≡ reported report) × (bs ≡ report ++ rest)

verdict-beside : (ls : List Line) (x : Routine) (v : Verdict) → Beside (merge_explained ls x v) (of_verdict (bound_text x.tick) v)
unfolding merge_explained of_verdict merge_explanation_text
verdict-beside ls x (verdicts.accepted q) = record {
  refuses = λ r. (λ e. never r _ (sym e), λ e. never r _ (sym e));
  begins = λ bs e.
      let f : merge_explanation_text ls x q ≡ bs = cc in
      let way = listing ls x.code.first (shown_lines (costliest_way x.code x.start)) in
      (bound_text x.tick q, entry_names ++ way, refl, sym f ∙ append_assoc (bound_text x.tick q) entry_names way);
}
verdict-beside ls x (verdicts.refused y) = record { refuses = λ r. (λ e. e, λ e. e); begins = λ bs e. never y bs e }

reading-beside : (ls : List Line) (m : Reading) → Beside (of_reading (explain_merge_routine ls) m) (of_reading merge_routine m)
unfolding of_reading explain_merge_routine merge_routine
reading-beside ls (readings.unread y) = record { refuses = λ r. (λ e. e, λ e. e); begins = λ bs e. never y bs e }
reading-beside ls (readings.routine x) = verdict-beside ls x (merged x.code x.start)

pub explains-merging-bound : ExplainsMergingBound
unfolding explain_merge_answer merge_answer
explains-merging-bound text n h =
    let a = lent-enough explanation_limit n (of_reading (explain_merge_routine (body (lines text))) (read_bound text)) h in
    let b = lent-enough memory_limit n (of_reading merge_routine (read_bound text)) (omega arith) in
    let k = reading-beside (body (lines text)) (read_bound text) in
    rw (a, b) (k.refuses, k.begins)
