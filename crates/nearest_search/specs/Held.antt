-- What the code's values stand for, and what is asked of them.
use Rattle.refusals.specs.declared.Refusal.{Refusal}
use Rattle.std.specs.Prelude.{◌<◌, ◌≡◌, Err, None, Ok, Result, Some}
use Rattle.refusals.specs.Library.{ℕ, ℤ, get_or, Bool, false, List, Option, some, none}
use Rattle.bound_theory.specs.Terms.{Report, Verdict, accepted, bound, Try, done, stuck, Cell, handle, State, Code}
use Rattle.machine_state.specs.HeldProgram.{IsProgram}
use Rattle.machine_state.specs.declared.State as states
use Rattle.bound_figures.specs.declared.Found.{Found}
use Rattle.bound_figures.specs.HeldFigures.{Shows}
use Rattle.bound_explorer.specs.HeldContract.{Explorable}
use Rattle.nearest_changes.specs.declared.Change.{Change}
use Rattle.nearest_changes.specs.declared.Position.{Position}
use Rattle.nearest_changes.specs.Places.{replace_at, position_of}
use Rattle.nearest_changes.specs.Changes.{number_at, applied, first}
use Rattle.nearest_search.specs.Search.{moved, Searched, found, refused_by}

-- what a search comes to
abbrev pub of_sought : Result (Option Change) Refusal → Searched
of_sought (Ok (Some c)) = found (some c)
of_sought (Ok None) = found none
of_sought (Err r) = refused_by r

-- what is asked: a program that is well formed, and a start that can be explored
pub record Searchable (ws : List ℕ) (start : states.State) (budget : ℕ) : Type 0 where
  pub formed : IsProgram ws
  pub explorable : Explorable start 32 budget

-- r says whether the verdict that an answer shows moves a bound of n cycles
abbrev pub MovedAs : ℕ → Found → Bool → Type 0
MovedAs n f r = (v : Verdict) → Shows f v → r ≡ moved n v

-- s reports n cycles
pub record Reported (c : Code) (budget n : ℕ) (s : State) : Type 0 where
  pub report : Report
  pub accepts : bound c budget s ≡ accepted report
  pub figure : report.cycles ≡ n

-- a handle of no block: "at most eight blocks", and the first has the number 0
abbrev pub no_block : Cell
no_block = handle 8

-- whether a bound of n cycles is moved where that stands in the place of a number; of a cell that holds no single number, nothing is asked
unfoldable pub read_by : Try ℤ → Bool → Bool
read_by stuck b = false
read_by (done v) b = b

unfoldable pub is_read : Code → ℕ → ℕ → State → Position → Bool
is_read c budget n s p = read_by (number_at p s) (moved n (bound c budget (replace_at p no_block s)))

-- the same of every place
pub record ReadAs (c : Code) (budget n : ℕ) (s : State) (r : List Bool) : Type 0 where
  pub each : (k : ℕ) → k < 193 → get_or r k false ≡ is_read c budget n s (position_of k)

-- the first of a list of changes that moves a bound of n cycles
abbrev pub first_moved : Code → ℕ → ℕ → State → List Change → Option Change
first_moved c budget n s xs = first (λ x. moved n (bound c budget (applied x s))) xs
