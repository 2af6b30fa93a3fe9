-- The search for the nearest number that moves the bound refuses what the first bound refuses. Assumes nothing.
use Prim.Native.Nat.{ℕ}
use mathlib.Core.Path.{◌≡◌, refl, sym, ap}
use mathlib.Core.Bool.{Bool, true, false, cond}
use mathlib.Core.List.{List}
use lib.Dec.{ltb}
use Rattle.refusals.specs.declared.Refusal.{Refusal}
use Rattle.refusals.specs.declared.Refusal.TheVariants.{ReportMemory}
use Rattle.bound_theory.specs.Tree.{Verdict, bound}
use Rattle.bound_theory.specs.Tree as verdicts
use Rattle.file_format.specs.Routine.{Routine, Reading, read_bound}
use Rattle.file_format.specs.Routine as readings
use Rattle.answers.specs.Answers.{Answer, refused, memory_limit, of_reading}
use Rattle.answers.proofs.AnswerLaws.{never}
use Rattle.report.specs.Report.{bound_text}
use Rattle.nearest_search.specs.Search.{search}
use Rattle.nearest_search.proofs.Theorems as searches
use Rattle.nearest_entry.specs.Answers.{nearest_routine, nearest_answer}
use Rattle.nearest_entry.proofs.FunctionLaws.{from-refused, says-refused}
use Rattle.report_theory.specs.Answers.{of_verdict, bound_routine, bound_answer}
use Rattle.theorems.specs.EntryPoints.{RefusedAlike}

-- answers that are refused alike for each routine are refused alike for each reading
alike : (f g : Routine → Answer) (r : Refusal) → ((x : Routine) → f x ≡ refused r → g x ≡ refused r) →
    (b : Bool) (m : Reading) → cond b (refused ReportMemory) (of_reading f m) ≡ refused r → cond b (refused ReportMemory) (of_reading g m) ≡ refused r
unfolding of_reading
alike f g r h true m e = e
alike f g r h false (readings.unread x) e = e
alike f g r h false (readings.routine x) e = h x e

-- a refusal of a verdict is that of the answer
verdict-refused : (v : Verdict) (f : verdicts.Report → List ℕ) (r : Refusal) → of_verdict f v ≡ refused r → v ≡ verdicts.refused r
unfolding of_verdict
verdict-refused (verdicts.accepted q) f r e = never r (f q) (sym e)
verdict-refused (verdicts.refused x) f r e = let h : x ≡ r = cc in ap verdicts.refused h

refused-verdict : (v : Verdict) (f : verdicts.Report → List ℕ) (r : Refusal) → v ≡ verdicts.refused r → of_verdict f v ≡ refused r
unfolding of_verdict
refused-verdict v f r e = rw e refl

pub refused-alike : RefusedAlike
unfolding nearest_answer bound_answer nearest_routine bound_routine
refused-alike text n r = (
  λ e. alike nearest_routine bound_routine r
      (λ x h. refused-verdict (bound x.code x.budget x.start) (bound_text x.tick) r ((searches.refused-alike x.code x.budget x.start r).0 (from-refused (search x.code x.budget x.start) r h)))
      (ltb n memory_limit) (read_bound text) e,
  λ e. alike bound_routine nearest_routine r
      (λ x h. says-refused (search x.code x.budget x.start) r ((searches.refused-alike x.code x.budget x.start r).1 (verdict-refused (bound x.code x.budget x.start) (bound_text x.tick) r h)))
      (ltb n memory_limit) (read_bound text) e,
)
