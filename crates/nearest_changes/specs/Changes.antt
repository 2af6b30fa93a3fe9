-- The changes of one cell of a start, in the order in which they are tried, and the first that moves a bound. (document 02, §13)
use Rattle.std.specs.Prelude.{◌+ℤ◌, ◌-ℤ◌, ◌∷◌, ◌++◌}
use Rattle.refusals.specs.Library.{ℕ, ℤ, pos, Bool, cond, List, [], Option, some, none}
use Rattle.machine.specs.Terms.{numbers, within, Try, done, stuck, ◌>>=◌, exactly, State}
use mathlib.Core.List.{flat_map}
use Rattle.nearest_changes.specs.declared.Position.{Position}
use Rattle.nearest_changes.specs.declared.Change.{Change}
use Rattle.nearest_changes.specs.Single.{single}
use Rattle.nearest_changes.specs.Places.{cell_at, replace_at, from, positions}

-- "start and block cells that hold one number": the number of the cell at a place
unfoldable pub number_at : Position → State → Try ℤ
number_at p s = cell_at p s >>= λ c. single c

-- a change by its parts
abbrev pub change : Position → ℤ → Change
change p v = record { place = p; value = v }

-- the cell at p changed to v; "Values outside the 31 bits are passed over."
unfoldable pub change_to : Position → ℤ → List Change
change_to p v = cond (within numbers v) (change p v ∷ []) []

-- the changes by n of a cell that holds v, "downwards before upwards"; none of a cell that holds no single number
unfoldable pub changes_of : ℕ → Position → Try ℤ → List Change
changes_of n p stuck = []
changes_of n p (done v) = change_to p (v -ℤ pos n) ++ change_to p (v +ℤ pos n)

-- of the cell at p
unfoldable pub changes_at : State → ℕ → Position → List Change
changes_at s n p = changes_of n p (number_at p s)

-- of all cells, "the cell earlier in the file" first
unfoldable pub changes_by : State → ℕ → List Change
changes_by s n = flat_map (changes_at s n) (positions s)

-- "the single change of at least 1 and at most 64"; "The smallest change comes first"
unfoldable pub changes : State → List Change
changes s = flat_map (changes_by s) (from 1 64)

-- the start with a change made: "the cell's value is changed, not the length of the text"
unfoldable pub applied : Change → State → State
applied c s = replace_at c.place (exactly c.value) s

-- the first of a list that passes a test
unfoldable pub first : {A : Type 0} → (A → Bool) → List A → Option A
first t [] = none
first t (x ∷ xs) = cond (t x) (some x) (first t xs)

-- the first change of s after which a test of states holds
unfoldable pub nearest : (State → Bool) → State → Option Change
nearest moves s = first (λ c. moves (applied c s)) (changes s)
