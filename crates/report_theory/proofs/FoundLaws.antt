-- What is answered of the figures found is the answer of the verdict that they show, and it can be printed. Assumes nothing.
use Rattle.refusals.specs.declared.Refusal.{Refusal}
use Rattle.std.specs.Prelude.{Result}
use Prim.Native.Nat.{ℕ, ◌≤◌}
use mathlib.Core.Path.{◌≡◌, ap, ◌∙◌}
use mathlib.Core.List.{List}
use native.Mathlib.Omega.{arith}
use lib.ListN.{length}
use Rattle.text.specs.Text.{lines}
use Rattle.bound_theory.specs.Tree.{accepted, refused}
use Rattle.bound_theory.specs.Tree as bounds
use Rattle.bound_figures.specs.declared.Found.{Found}
use Rattle.bound_figures.specs.HeldFigures.{Shows, accepted_as}
use Rattle.file_format.specs.Rows.{Passes}
use Rattle.file_format.specs.Routine.{Routine, routine_of}
use Rattle.file_format.proofs.RangeLaws.{tick-positive, tick-small}
use Rattle.report.specs.Report.{bound_text}
use Rattle.report.specs.Held.{Printable, judged_as, found_answer}
use Rattle.report.proofs.DecodeLaws.{report-of}
use Rattle.answers.specs.Answers.{Answer, reported, memory_limit, memory, answer_of}
use Rattle.report_theory.specs.Answers.{of_verdict}

pub found-answer : (tick : ℕ) (f : Found) (v : bounds.Verdict) → Shows f v → found_answer tick f ≡ of_verdict (bound_text tick) v
unfolding of_verdict accepted_as judged_as
found-answer tick f (accepted q) s = ap (found_answer tick) s ∙ ap (λ z. reported (bound_text tick z)) (report-of q)
found-answer tick f (refused x) s = ap (judged_as tick f) s

module _ (tick n : ℕ) (f : Found) (v : bounds.Verdict) (s : Shows f v) where
  pub found-printable : Printable (of_verdict (bound_text tick) v) tick n → Printable (found_answer tick f) tick n
  found-printable p = rw (found-answer tick f v s) p

  pub found-gives : (r : Result ℕ Refusal) (former out : List ℕ) → (r ≡ answer_of (found_answer tick f)) × (out ≡ memory (found_answer tick f) former)
      → (r ≡ answer_of (of_verdict (bound_text tick) v)) × (out ≡ memory (of_verdict (bound_text tick) v) former)
  found-gives r former out h = rw (← found-answer tick f v s) h

-- ---- a report of a text that passes can be printed

pub printable : (text : List ℕ) (x : Routine) → Passes (lines text) → x ≡ routine_of (lines text) → (n : ℕ) → memory_limit ≤ n → (a : Answer) →
    ((bs : List ℕ) → a ≡ reported bs → (1 ≤ length bs) × (length bs ≤ memory_limit) × (memory_limit ≤ n)) → Printable a x.tick n
printable text x passes is n h a sized = record {
  positive = rw is (tick-positive passes);
  small = rw is (tick-small passes);
  fits = λ bs e. let (least, fits, lent) = sized bs e in omega arith;
}
