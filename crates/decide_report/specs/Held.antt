-- What the internal functions are handed.
use Rattle.std.specs.Prelude.{◌≤◌, ◌≡◌}
use Rattle.refusals.specs.Library.{ℕ, length, List}
use Rattle.bound_theory.specs.Tree.{Report}
use Rattle.bound_figures.specs.declared.Found.{Found}
use Rattle.answers.specs.Answers.{Answer, reported}
use Rattle.report.specs.HeldPath.{report_of}

-- the report that the figures found stand for
abbrev pub report_in : Found → Report
report_in f = report_of f.cycles f.words f.depth f.used f.path

-- an answer with a report, if it is one, has room in n bytes
abbrev pub Roomy : Answer → ℕ → Type 0
Roomy a n = (bs : List ℕ) → a ≡ reported bs → length bs ≤ n
