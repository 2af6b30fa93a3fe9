-- What is promised of the nearest change, for any test of states. `proofs/Theorems` proves each statement by its name. (document 02, §13)
use Rattle.std.specs.Prelude.{◌≤◌, ◌<◌, ◌+ℤ◌, ◌-ℤ◌, ◌≡◌}
use Rattle.refusals.specs.Library.{ℕ, ℤ, pos}
use Rattle.machine.specs.Terms.{done, State}
use Rattle.numbers.specs.Numbers.{IsNumber}
use Rattle.nearest_changes.specs.declared.Position.{Position}
use Rattle.nearest_changes.specs.declared.Change.{Change}
use Rattle.nearest_changes.specs.Places.{Earlier}
use Rattle.nearest_changes.specs.Changes.{number_at}

-- which way a number is changed
pub data Direction : Type 0 where
  downwards upwards : Direction

-- n below v, or n above it
unfoldable pub move_by : Direction → ℕ → ℤ → ℤ
move_by downwards n v = v -ℤ pos n
move_by upwards n v = v +ℤ pos n

-- x is a "single change of at least 1 and at most 64" of a cell that holds one number, by n in the direction d, to a number of 31 bits
pub record ChangeBy (s : State) (n : ℕ) (d : Direction) (x : Change) : Type 0 where
  pub least : 1 ≤ n
  pub most : n ≤ 64
  pub old : ℤ
  pub holds : number_at x.place s ≡ done old
  pub moved : x.value ≡ move_by d n old
  pub fits : IsNumber x.value

-- "The smallest change comes first, then the cell earlier in the file, then downwards before upwards."
pub data Before : ℕ → Position → Direction → ℕ → Position → Direction → Type 0 where
  smaller : {m n : ℕ} {p q : Position} {d e : Direction} → m < n → Before m p d n q e
  earlier : {n : ℕ} {p q : Position} {d e : Direction} → Earlier p q → Before n p d n q e
  down_first : {n : ℕ} {p : Position} → Before n p downwards n p upwards
