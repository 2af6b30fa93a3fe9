-- What is answered of the figures found, by their verdict. Assumes nothing.
use Rattle.std.specs.Prelude.{Err, Ok}
use Prim.Native.Nat.{ℕ}
use mathlib.Core.Path.{◌≡◌, ap}
use Rattle.refusals.specs.declared.Refusal.{Refusal}
use Rattle.bound_figures.specs.declared.Found.{Found}
use Rattle.answers.specs.Answers.{reported}
use Rattle.answers.specs.Answers as answers
use Rattle.report.specs.Report.{bound_text}
use Rattle.report.specs.HeldPath.{report_of}
use Rattle.report.specs.Held.{judged_as, found_answer}

pub judged-accepted : (tick : ℕ) (f : Found) → f.verdict ≡ Ok tt
    → found_answer tick f ≡ reported (bound_text tick (report_of f.cycles f.words f.depth f.used f.path))
unfolding judged_as
judged-accepted tick f e = ap (judged_as tick f) e

pub judged-refused : (tick : ℕ) (f : Found) (x : Refusal) → f.verdict ≡ Err x → found_answer tick f ≡ answers.refused x
unfolding judged_as
judged-refused tick f x e = ap (judged_as tick f) e
