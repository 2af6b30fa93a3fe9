-- What the internal functions are handed.
use Rattle.std.specs.Prelude.{◌≤◌, ◌≡◌}
use Rattle.refusals.specs.Library.{ℕ, length, List}
use Rattle.answers.specs.Terms.{reported, Line}
use Rattle.machine.specs.Forward.{Forward}
use Rattle.machine.specs.Targets.{Closed}
use Rattle.machine_state.specs.HeldProgram.{first_address_of}
use Rattle.merge_way.specs.Way.{Origins, origins, costliest_way}
use Rattle.bound_figures.specs.declared.Found.{Found}
use Rattle.file_reader.specs.declared.Routine.{Routine}
use Rattle.file_entry.specs.Held.{routine_in}
use Rattle.explain_lines.specs.Listing.{shown_lines, listing}
use Rattle.explain_entry.specs.Held.{report_in}
use Rattle.explain_merge_entry.specs.Answers.{merge_explanation_text, explain_merge_routine}

-- what is kept for each goal, of the routine that the code's arrays hold
abbrev pub origins_in : Routine → Origins
origins_in x = origins (routine_in x).code (routine_in x).start

-- the lines of its costliest way
abbrev pub way_in : List Line → Routine → List ℕ
way_in ls x = listing ls (first_address_of x.code) (shown_lines (costliest_way (routine_in x).code (routine_in x).start))

-- what is explained of that routine, by the figures of the pass
abbrev pub merge_text_in : List Line → Routine → Found → List ℕ
merge_text_in ls x f = merge_explanation_text ls (routine_in x) (report_in f)

-- what is explained, if anything is, can be printed into n bytes; and the code passes refusals 6 and 13
pub record MergePrintable (ls : List Line) (x : Routine) (n : ℕ) : Type 0 where
  pub positive : 1 ≤ x.tick
  pub small : x.tick ≤ 4000000000
  pub fits : (bs : List ℕ) → explain_merge_routine ls (routine_in x) ≡ reported bs → length bs ≤ n
  pub forward : Forward (routine_in x).code
  pub closed : Closed (routine_in x).code
