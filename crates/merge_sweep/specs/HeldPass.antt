-- One address of the pass: what is asked before it, and what holds after it.
use Rattle.std.specs.Prelude.{◌+◌, ◌*◌, ◌≤◌, ◌<◌, ◌≡◌, Err}
use Rattle.refusals.specs.Library.{ℕ, Bool, true, false, List}
use Rattle.bound_theory.specs.Terms.{Refusal, Report, Verdict, refused, Price}
use Rattle.merge_theory.specs.Merge.{Slot, empty, unlike, held, Table, slot}
use Rattle.bound_figures.specs.declared.Found.{Found}
use Rattle.bound_figures.specs.HeldFigures.{accepted_as}
use Rattle.merge_rows.specs.declared.Way.{Way}
use Rattle.merge_rows.specs.HeldRows.{Formed, Numeric, Rows, arrival_of, slot_at, waiting}
use Rattle.merge_sweep.specs.declared.Mark.{Mark}
use Rattle.merge_sweep.specs.declared.Mark.TheVariants.{Nothing, Unlike, Is}
use Rattle.merge_sweep.specs.declared.Pass.{Pass}

-- what the code's answer stands for
unfoldable pub came_as : List ℕ → Mark → Way → Slot
came_as ns Nothing w = empty
came_as ns Unlike w = unlike
came_as ns Is w = held (arrival_of ns w).state (arrival_of ns w).spent

-- a way that has come is at the address a
abbrev pub Held : List ℕ → Mark → Way → ℕ → Type 0
Held ns Nothing w a = Unit {0}
Held ns Unlike w a = Unit {0}
Held ns Is w a = (w.state.at ≡ a) × (Formed w × Numeric ns w)

-- the way goes to the address a, if `here` says so
abbrev pub Comes : List ℕ → Bool → Way → ℕ → Type 0
Comes ns true w a = (w.state.at ≡ a) × (Formed w × Numeric ns w)
Comes ns false w a = Unit {0}

-- the first n rows, of the addresses from `first` on, hold nothing
abbrev pub Empty : List ℕ → ℕ → ℕ → List ℕ → Type 0
Empty ns first n rs = (b : ℕ) → b < n → slot_at ns first rs b ≡ empty

-- sums of at most m
abbrev pub Spent : ℕ → Slot → Type 0
Spent m empty = Unit {0}
Spent m unlike = Unit {0}
Spent m (held s p) = (p.cycles ≤ m) × (p.words ≤ m)

-- what j steps can cost
abbrev pub most : ℕ → ℕ
most j = 8589934592 * j

-- the figures after j addresses
pub record Figures (j : ℕ) (f : Found) : Type 0 where
  pub used : f.used ≤ j
  pub cycles : f.cycles ≤ most j
  pub words : f.words ≤ most j
  pub depth : f.depth ≤ 64

-- before the address of row j, of n rows from the address `first` on
pub record Ready (ns : List ℕ) (first n j : ℕ) (rs : List ℕ) (p : Pass) : Type 0 where
  pub rows : Rows rs
  pub figures : Figures j p.found
  pub comes : Comes ns p.here p.way (first + j)
  pub sums : (b : ℕ) → j ≤ b → b < n → Spent (most j) (waiting ns p.here p.way j b (slot_at ns first rs b))

-- the table of the definition has what the rows from j on hold
abbrev pub Agrees : List ℕ → ℕ → ℕ → ℕ → Table → List ℕ → Bool → Way → Type 0
Agrees ns first n j tab rs here w = (b : ℕ) → j ≤ b → b < n → slot (tab (first + b)) ≡ waiting ns here w j b (slot_at ns first rs b)

-- the address before that of row j was gone through, and v says how the definition goes on there: it is refused, or goes on with the same
-- figures and the table `onto`, which has what the rows from j on hold
pub data Moved (ns : List ℕ) (first n j : ℕ) (v : (Table → Report → Verdict) → Verdict) (onto : Table) (rs : List ℕ) (r : Pass) : Type 0 where
  stopped : (x : Refusal) → r.found.verdict ≡ Err x → ((rest : Table → Report → Verdict) → v rest ≡ refused x) → Moved ns first n j v onto rs r
  moved : (q : Report) → r.found ≡ accepted_as q → ((rest : Table → Report → Verdict) → v rest ≡ rest onto q) → Agrees ns first n j onto rs r.here r.way
      → Moved ns first n j v onto rs r

-- a way after a step at the price p
abbrev pub spent_of : Way → Price
spent_of w = record { cycles = w.cycles; words = w.words }
