-- What an explanation says, proved. Assumes nothing.
use Prim.Native.Nat.{ℕ, suc, ◌+◌, ◌-◌, ◌*◌, ◌≤◌}
use mathlib.Core.Path.{◌≡◌, refl, sym, ap, ◌∙◌}
use mathlib.Core.List.{List}
use native.Mathlib.Omega.{arith}
use lib.ListN.{length, drop, length-append}
use Rattle.refusals.specs.declared.Refusal.{Refusal}
use Rattle.refusals.specs.Refusals.{place}
use Rattle.text.specs.Text.{Line, lines}
use Rattle.machine.specs.Forward.{Forward}
use Rattle.bound_theory.specs.Tree.{Report, Verdict, bound}
use Rattle.bound_theory.specs.Tree as verdicts
use Rattle.bound_theory.proofs.PlaceLaws.{bound-place}
use Rattle.file_format.specs.Layout.{body, layout}
use Rattle.file_format.specs.Rows.{Passes}
use Rattle.file_format.specs.Routine.{Routine, routine_of, read_bound}
use Rattle.file_format.proofs.RowLaws.{read-passes}
use Rattle.file_format.proofs.PassingLaws.{code-few}
use Rattle.file_format.proofs.BranchLaws.{passing-forward}
use Rattle.file_format.proofs.PlaceLaws.{read-bound-place, confined, start_small}
use Rattle.report.specs.Report.{bound_text}
use Rattle.report.proofs.ReportLaws.{bound-small, bound-fits}
use Rattle.report_theory.proofs.SizeLaws.{code-length, priced, low, ticks, bound-limited}
use Rattle.explain_walk.proofs.Theorems.{walks-worst}
use Rattle.explain_lines.specs.Listing.{shown_lines, listing}
use Rattle.explain_lines.proofs.LengthLaws.{total, total-drop, total-lines, walk-fits}
use Rattle.answers.specs.Answers.{reported, refused}
use Rattle.answers.proofs.AnswerLaws.{never, from-reading, place-from}
use Rattle.explain_entry.specs.Answers.{explanation_limit, worst_moves, explanation_text, explained, explain_routine, explain_answer}
use Rattle.explain_entry.specs.Promises.{ExplanationsKept}
use Rattle.explain_entry.proofs.EntryLaws.{last-cost, last-words, ways-decisions, entry_of}

-- ---- what an explanation comes from

record FromVerdict (ls : List Line) (x : Routine) (v : Verdict) (bs : List ℕ) : Type 0 where
  report : Report
  accepts : v ≡ verdicts.accepted report
  prints : explanation_text ls x report ≡ bs

from-verdict : (ls : List Line) (x : Routine) (v : Verdict) (bs : List ℕ) → explained ls x v ≡ reported bs → FromVerdict ls x v bs
unfolding explained
from-verdict ls x (verdicts.accepted q) bs e = record { report = q; accepts = refl; prints = cc }
from-verdict ls x (verdicts.refused r) bs e = never r bs e

from-refused : (ls : List Line) (x : Routine) (v : Verdict) (r : Refusal) → explained ls x v ≡ refused r → v ≡ verdicts.refused r
unfolding explained
from-refused ls x (verdicts.accepted q) r e = never r (explanation_text ls x q) (sym e)
from-refused ls x (verdicts.refused y) r e = let h : y ≡ r = cc in ap verdicts.refused h

-- ---- the worst path

pub explanations-kept : ExplanationsKept
unfolding explain_answer explain_routine explanation_text worst_moves
explanations-kept text n bs e =
    let ls = body (lines text) in
    let a = from-reading (explain_routine ls) (read_bound text) explanation_limit n bs e in
    let x = a.routine in
    let v = from-verdict ls x (bound x.code x.budget x.start) bs a.gives in
    let q = v.report in
    let p = read-passes text x a.reads in
    let forward : Forward x.code = rw (← p.1) at (passing-forward (lines text) p.0) in
    let moves = worst_moves x q in
    let w = walks-worst x.code forward x.budget x.start q v.accepts in (
      x,
      q,
      moves,
      record {
        reads = a.reads;
        accepts = v.accepts;
        worst = w;
        prints = sym v.prints;
        last = last-cost moves ∙ w.lemma12;
        words = last-words moves;
        path = ways-decisions moves ∙ w.path;
        follows = λ k d f h i.
            let s = entry_of moves k d h in
            let t = entry_of moves (suc k) f i in
            record { move = s.move; next = t.move; steps = w.leads k s.move t.move s.there t.there; from = s.at; to = t.at };
      },
    )

-- ---- its size

text-length : (ls : List Line) (x : Routine) (q : Report)
    → length (explanation_text ls x q) ≡ length (bound_text x.tick q) + 33 + length (listing ls x.code.first (shown_lines (worst_moves x q)))
unfolding explanation_text
text-length ls x q = simp length-append (omega arith)

body-short : (text : List ℕ) (k : ℕ) → total (drop k (body (lines text))) ≤ length text
unfolding body
body-short text k =
    omega (arith, total-drop k (drop (length layout) (lines text)), total-drop (length layout) (lines text), total-lines text)

module _ (text : List ℕ) (x : Routine) (passes : Passes (lines text)) (is : x ≡ routine_of (lines text)) where
  code-short : length x.code.instructions ≤ 1024
  code-short = rw (is, code-length) (code-few (lines text) passes.layout)

  steps-fit : (q : Report) → length (listing (body (lines text)) x.code.first (shown_lines (worst_moves x q)))
      ≤ 23 * length x.code.instructions + total (drop (x.start.at - x.code.first) (body (lines text)))
  unfolding worst_moves shown_lines
  steps-fit q =
      let forward : Forward x.code = rw (← is) at (passing-forward (lines text) passes) in
      walk-fits x.code forward (priced text x passes is) (body (lines text)) (length x.code.instructions) q.path x.start 0 0 (low text x passes is) (omega (arith, code-short), omega (arith, code-short))

-- whatever the text, what is explained fits, and the memory was lent
abbrev pub ExplanationsFit : Type 0
ExplanationsFit = (text : List ℕ) (n : ℕ) (bs : List ℕ) → explain_answer text n ≡ reported bs → (1 ≤ length bs) × (length bs ≤ explanation_limit) × (explanation_limit ≤ n)

pub explanations-fit : ExplanationsFit
unfolding explain_answer explain_routine
explanations-fit text n bs e =
    let ls = body (lines text) in
    let a = from-reading (explain_routine ls) (read_bound text) explanation_limit n bs e in
    let x = a.routine in
    let v = from-verdict ls x (bound x.code x.budget x.start) bs a.gives in
    let q = v.report in
    let p = read-passes text x a.reads in
    let m = code-short text x p.0 p.1 in
    let w = steps-fit text x p.0 p.1 q in
    let b = body-short text (x.start.at - x.code.first) in
    let r = bound-fits x.tick q (bound-small x.tick q (ticks text x p.0 p.1) (bound-limited text x p.0 p.1 q v.accepts)) in
    let l = text-length ls x q in
    let z = ap length v.prints in
    (omega arith, omega (arith, p.2), a.lent)

-- ---- its refusals

pub explain-place : (text : List ℕ) (n : ℕ) (r : Refusal) → explain_answer text n ≡ refused r → place r ≤ 62000
unfolding explain_answer explain_routine
explain-place text n r =
    place-from 62000 (explain_routine (body (lines text))) (read_bound text) explanation_limit n r (λ r e. omega (arith, read-bound-place text r e)) (λ x e f.
    let (p, is, short) = read-passes text x e in
    let v = from-refused (body (lines text)) x (bound x.code x.budget x.start) r f in
    bound-place 62000 x.code (rw is (confined (lines text) p)) x.budget x.start (rw is (start_small (lines text) p)) r v)
