-- What the code's values stand for.
use Rattle.std.specs.Prelude.{◌+◌, ◌-◌, ◌/◌, ◌%◌, ◌+ℤ◌, ◌-ℤ◌, ◌∷◌, ◌≡◌, None, Option, Some}
use Rattle.refusals.specs.Library.{ℕ, eqb, ℤ, pos, cond, List, []}
use Rattle.machine.specs.Terms.{Try, done, stuck, Cell, State}
use Rattle.nearest_changes.specs.declared.Position.{Position}
use Rattle.nearest_changes.specs.declared.Change.{Change}
use Rattle.nearest_changes.specs.Places.{cell_at, position_of}
use Rattle.nearest_changes.specs.Changes.{number_at, change_to}

-- the start has a cell at p
pub record Present (p : Position) (s : State) : Type 0 where
  pub cell : Cell
  pub there : cell_at p s ≡ done cell

-- what a trial changes
abbrev pub of_trial : Option Change → List Change
of_trial (Some c) = c ∷ []
of_trial None = []

-- v changed by n: downwards in the first of two trials, upwards in the second
abbrev pub shift : ℕ → ℕ → ℤ → ℤ
shift d n v = cond (eqb d 1) (v +ℤ pos n) (v -ℤ pos n)

-- a cell at p that holds a number, changed by n
unfoldable pub directed : ℕ → Position → Try ℤ → ℕ → List Change
directed n p stuck d = []
directed n p (done v) d = change_to p (shift d n v)

-- trial j of a start: two of each place, 193 places of each amount, amounts from 1 on
unfoldable pub trial_of : State → ℕ → List Change
trial_of s j = directed (j / 2 / 193 + 1) (position_of (j / 2 % 193)) (number_at (position_of (j / 2 % 193)) s) (j % 2)
