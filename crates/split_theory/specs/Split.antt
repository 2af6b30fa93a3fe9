-- The bound by cases: cells of a start are cut at numbers, each case is bounded by merging, and the largest figures are reported.
-- (docs/DECISIONS.md, The bound by cases)
use Rattle.std.specs.Prelude.{◌-ℤ◌, ◌&&◌, ◌∷◌, ◌≡◌}
use Rattle.refusals.specs.Library.{max, ℤ, pos, le_z, lt_z, Bool, true, false, cond, List, []}
use Rattle.bound_theory.specs.Terms.{Report, Verdict, accepted, refused, Try, done, stuck, Value, Range, Handle, Cell, handle, between, high, State, Code}
use Rattle.merge_theory.specs.Merge.{merged}
use Rattle.nearest_changes.specs.declared.Position.{Position}
use Rattle.nearest_changes.specs.Places.{cell_at, replace_at}

-- ---- one cell

-- a range with numbers below n and numbers from n on
unfoldable pub divides_value : ℤ → Value → Bool
divides_value n (Range low more) = lt_z low n && le_z n (high low more)
divides_value n (Handle k) = false

-- its numbers below n
unfoldable pub lower_part : ℤ → Value → Cell
lower_part n (Range low more) = between low (n -ℤ pos 1)
lower_part n (Handle k) = handle k

-- its numbers from n on
unfoldable pub upper_part : ℤ → Value → Cell
upper_part n (Range low more) = between n (high low more)
upper_part n (Handle k) = handle k

-- ---- the cell at a place of a state

-- of the cell that is there; a place without a cell is not divided
unfoldable pub divides_cell : ℤ → Try Cell → Bool
divides_cell n stuck = false
divides_cell n (done c) = divides_value n c.value

-- the number n divides the cell at p
unfoldable pub divides : Position → ℤ → State → Bool
divides p n s = divides_cell n (cell_at p s)

-- the state with a part of the cell that is at p
unfoldable pub cut_to : (Value → Cell) → Position → Try Cell → State → State
cut_to part p stuck s = s
cut_to part p (done c) s = replace_at p (part c.value) s

-- the state with the numbers below n at p
unfoldable pub below : Position → ℤ → State → State
below p n s = cut_to (lower_part n) p (cell_at p s) s

-- with those from n on
unfoldable pub from : Position → ℤ → State → State
from p n s = cut_to (upper_part n) p (cell_at p s) s

-- ---- the bound

-- where to cut: the cell at a place, at a number
pub record Cut : Type 0 where
  pub place : Position
  pub number : ℤ

-- the larger of each figure
unfoldable pub largest : Report → Report → Report
largest r q = record { cycles = max r.cycles q.cycles; words = max r.words q.words; depth = max r.depth q.depth; steps = max r.steps q.steps; path = [] }

-- of two cases: the first refusal, or the larger figures
unfoldable pub larger : Verdict → Verdict → Verdict
larger (refused x) w = refused x
larger (accepted r) (refused y) = refused y
larger (accepted r) (accepted q) = accepted (largest r q)

-- the bound by cases: cut after cut, where it divides
unfoldable pub split : Code → List Cut → State → Verdict
split c [] s = merged c s
split c (x ∷ xs) s =
    cond (divides x.place x.number s)
    (larger (split c xs (below x.place x.number s)) (split c xs (from x.place x.number s)))
    (split c xs s)

-- one of the cases that the cuts make of a start
pub data Case : List Cut → State → State → Type 0 where
  whole : {s : State} → Case [] s s
  undivided : {x : Cut} {xs : List Cut} {s u : State} → divides x.place x.number s ≡ false → Case xs s u → Case (x ∷ xs) s u
  lower : {x : Cut} {xs : List Cut} {s u : State} → divides x.place x.number s ≡ true → Case xs (below x.place x.number s) u → Case (x ∷ xs) s u
  upper : {x : Cut} {xs : List Cut} {s u : State} → divides x.place x.number s ≡ true → Case xs (from x.place x.number s) u → Case (x ∷ xs) s u
