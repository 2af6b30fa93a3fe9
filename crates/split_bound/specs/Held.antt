-- What the internal functions are handed, and what they answer.
use Rattle.refusals.specs.declared.Refusal.{Refusal}
use Rattle.std.specs.Prelude.{◌+◌, ◌≤◌, ◌≡◌, Err, Ok, Result, ⊤}
use Rattle.refusals.specs.Library.{ℕ, max, ℤ, length, cond, List}
use Rattle.machine.specs.Terms.{Try, done, stuck, Value, Cell, Cellwise}
use Rattle.cells.specs.HeldConfined.{Kept}
use Rattle.machine_state.specs.declared.State.{State}
use Rattle.machine_state.specs.HeldProgram.{first_address_of, lines_in, sizes_of, IsProgram}
use Rattle.machine_state.specs.HeldState.{WellFormed, whole}
use Rattle.bound_figures.specs.declared.Found.{Found}
use Rattle.nearest_changes.specs.declared.Position.{Position}
use Rattle.nearest_changes.specs.Places.{replace_at}
use Rattle.split_theory.specs.Split.{divides_value, lower_part, upper_part}
use Rattle.split_bound.specs.declared.Case.{Case}
use Rattle.split_bound.specs.declared.Parts.{Parts}
use Rattle.split_bound.specs.declared.Parts.TheVariants.{Two, Whole}

-- the parts of a value, where n divides it
unfoldable pub parts_of : ℤ → Value → Parts
parts_of n v = cond (divides_value n v) (Two (lower_part n v) (upper_part n v)) Whole

-- of the cell that is at a place; where there is none, nothing is divided
unfoldable pub parts_at : ℤ → Try Cell → Parts
parts_at n stuck = Whole
parts_at n (done c) = parts_of n c.value

-- a start that can be cut and bounded by merging
pub record Splittable (code : List ℕ) (start : State) (fields : List Cell) : Type 0 where
  pub program : IsProgram code
  pub formed : WellFormed start
  pub room : length fields ≡ 128
  pub numeric : Cellwise Kept (whole (sizes_of code) fields start) (whole (sizes_of code) fields start)
  pub placed : (first_address_of code ≤ start.at) × (start.at ≤ first_address_of code + lines_in code)

-- the start that r holds is another with c at p
pub record Replaced (code : List ℕ) (start : State) (fields : List Cell) (p : Position) (c : Cell) (r : Case) : Type 0 where
  pub is : whole (sizes_of code) r.blocks r.start ≡ replace_at p c (whole (sizes_of code) fields start)
  pub formed : WellFormed r.start
  pub room : length r.blocks ≡ 128
  pub at : r.start.at ≡ start.at

-- what is found of two cases, of which the first is accepted: the refusal of the second, or the larger figures
unfoldable pub larger_by : Found → Found → Result ⊤ Refusal → Found
larger_by f g (Ok tt) = record {
  verdict = Ok tt;
  used = max f.used g.used;
  cycles = max f.cycles g.cycles;
  words = max f.words g.words;
  depth = max f.depth g.depth;
  path = 1;
}
larger_by f g (Err x) = g

unfoldable pub larger_of : Found → Found → Found
larger_of f g = larger_by f g g.verdict
