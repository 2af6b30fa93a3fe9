-- What the numbers beside the rows stand for: for each goal the last move of the costliest way that has come to it.
use Rattle.std.specs.Prelude.{◌+◌, ◌*◌, ◌<◌, ◌≡◌}
use Rattle.refusals.specs.Library.{ℕ, eqb, ltb, length, get_or, cond, List}
use Rattle.bound_theory.specs.Terms.{Move, height}
use Rattle.machine_step.specs.declared.Price.{Price}
use Rattle.merge_way.specs.Way.{out, to, Kept, nothing, kept, Origins}
use Rattle.bound_figures.specs.HeldFigures.{encode}
use Rattle.merge_origins.specs.declared.Last.{Last}

-- six numbers for each of 1,026 goals: the 1,025 rows, and STOP
abbrev pub Goals : List ℕ → Type 0
Goals ks = length ks ≡ 6156

-- the last move that is kept for the goal g
unfoldable pub last_at : List ℕ → ℕ → Last
last_at ks g = record {
  way = get_or ks (6 * g) 0;
  sum = get_or ks (6 * g + 1) 0;
  cycles = get_or ks (6 * g + 2) 0;
  words = get_or ks (6 * g + 3) 0;
  depth = get_or ks (6 * g + 4) 0;
  row = get_or ks (6 * g + 5) 0;
}

-- one more has come: it takes the place of what is kept only where it has more cycles, or where nothing is kept
unfoldable pub keep_last : Last → Last → Last
keep_last l k = cond (eqb k.way 0) l (cond (ltb k.sum l.sum) l k)

-- a move at a price from the address of a row
abbrev pub last_by : ℕ → Price → ℕ → ℕ → ℕ → Last
last_by way p spent depth row = record { way = way; sum = spent + p.cycles; cycles = p.cycles; words = p.words; depth = depth; row = row }

-- the numbers are those of the move m, with which x cycles are spent; its address is that of a row, the first of which is that of `first`
pub record IsLast (first : ℕ) (l : Last) (x : ℕ) (m : Move) : Type 0 where
  pub way : l.way ≡ encode m.decision
  pub sum : l.sum ≡ x
  pub cycles : l.cycles ≡ m.price.cycles
  pub words : l.words ≡ m.price.words
  pub depth : l.depth ≡ height m.state
  pub at : first + l.row ≡ m.state.at
  pub inside : l.row < 1025
  pub small : (l.cycles < 8589934592) × (l.words < 4294967296)

-- or nothing is kept
abbrev pub Holds : ℕ → Last → Kept → Type 0
Holds first l nothing = l.way ≡ 0
Holds first l (kept x m) = IsLast first l x m

-- the numbers are what is kept for the address of each row, and for STOP
pub record Keeps (first : ℕ) (ks : List ℕ) (o : Origins) : Type 0 where
  pub rows : (b : ℕ) → b < 1025 → Holds first (last_at ks b) (o (to (first + b)))
  pub stop : Holds first (last_at ks 1025) (o out)
