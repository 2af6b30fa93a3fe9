-- What the internal functions are handed.
use Rattle.std.specs.Prelude.{◌≤◌, ◌≡◌}
use Rattle.refusals.specs.Library.{ℕ, length, List}
use Rattle.bound_theory.specs.Terms.{Report, unknown, step}
use Rattle.answers.specs.Terms.{reported, Line}
use Rattle.machine_state.specs.HeldProgram.{first_address_of, lines_in}
use Rattle.bound_figures.specs.declared.Found.{Found}
use Rattle.file_reader.specs.declared.Routine.{Routine}
use Rattle.file_entry.specs.Held.{routine_in}
use Rattle.report.specs.HeldPath.{decode, report_of}
use Rattle.explain_walk.specs.Walk.{follow}
use Rattle.explain_lines.specs.Listing.{shown_lines, listing}
use Rattle.explain_entry.specs.Answers.{explanation_text, explain_routine}

-- the lines of the walk along a path through the routine that the code's arrays hold
abbrev pub walk_in : List Line → Routine → ℕ → List ℕ
walk_in ls x path = listing ls (first_address_of x.code) (shown_lines (follow (step (routine_in x).code unknown) (lines_in x.code) (decode path) (routine_in x).start))

-- the report that the explorer's figures stand for
abbrev pub report_in : Found → Report
report_in f = report_of f.cycles f.words f.depth f.used f.path

-- what is explained of that routine, by the explorer's figures
abbrev pub text_in : List Line → Routine → Found → List ℕ
text_in ls x f = explanation_text ls (routine_in x) (report_in f)

-- what is explained, if anything is, can be printed into n bytes
pub record Printable (ls : List Line) (x : Routine) (n : ℕ) : Type 0 where
  pub positive : 1 ≤ x.tick
  pub small : x.tick ≤ 4000000000
  pub fits : (bs : List ℕ) → explain_routine ls (routine_in x) ≡ reported bs → length bs ≤ n
