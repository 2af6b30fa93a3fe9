-- What is asked of a report, and what is answered of the figures found.
use Rattle.refusals.specs.declared.Refusal.{Refusal}
use Rattle.std.specs.Prelude.{◌≤◌, ◌≡◌, Err, Ok, Result, ⊤}
use Rattle.refusals.specs.Library.{ℕ, length, List}
use Rattle.bound_figures.specs.declared.Found.{Found}
use Rattle.answers.specs.Answers.{Answer, reported, refused}
use Rattle.report.specs.Report.{bound_text}
use Rattle.report.specs.HeldPath.{report_of}

-- CYCLES is small enough for the numbers that SHARE is computed with
pub record Shareable (found : Found) : Type 0 where
  pub cycles : found.cycles ≤ 8589934592000000

-- a report, if it is one, can be printed into n bytes
pub record Printable (a : Answer) (tick n : ℕ) : Type 0 where
  pub positive : 1 ≤ tick
  pub small : tick ≤ 4000000000
  pub fits : (bs : List ℕ) → a ≡ reported bs → length bs ≤ n

-- the figures found with a verdict: their report, or the refusal
unfoldable pub judged_as : ℕ → Found → Result ⊤ Refusal → Answer
judged_as tick f (Ok tt) = reported (bound_text tick (report_of f.cycles f.words f.depth f.used f.path))
judged_as tick f (Err x) = refused x

-- with their own
abbrev pub found_answer : ℕ → Found → Answer
found_answer tick f = judged_as tick f f.verdict
