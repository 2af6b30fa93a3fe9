-- What the code's state stands for.
use Rattle.std.specs.Prelude.{◌+◌, ◌*◌, ◌≤◌, ◌∷◌, ◌≡◌}
use Rattle.refusals.specs.Library.{ℕ, ltb, length, get_or, take, drop, cond, List, []}
use Rattle.machine.specs.Terms.{Try, done, stuck, ◌>>=◌, Cell, State}
use Rattle.cells.specs.Cells.{block}
use Rattle.machine.specs.Machine.{stack_limit, reblock}
use Rattle.machine_state.specs.declared.State as code

-- the state without its blocks: the first `free` cells of the array are unused, then comes the top, "entry 0 on top"
abbrev pub view : code.State → State
view s = record { at = s.at; accu = s.accu; stack = drop s.free s.stack; blocks = [] }

-- "a stack of at most 64 cells": the array has 64 places, and no more are unused
pub record WellFormed (s : code.State) : Type 0 where
  pub free : s.free ≤ stack_limit
  pub places : length s.stack ≡ stack_limit

-- blocks of the given sizes, each in sixteen places of one flat array
unfoldable pub blocks_of : List ℕ → List Cell → List (List Cell)
blocks_of [] fs = []
blocks_of (n ∷ ns) fs = take n fs ∷ blocks_of ns (drop 16 fs)

-- where field n of the block that a handles stands in the array: stuck through a non-handle, and where the block lacks the field
unfoldable pub slot : List ℕ → Cell → ℕ → Try ℕ
slot ns a n = block a >>= λ k. cond (ltb k (length ns)) (cond (ltb n (get_or ns k 0)) (done (k * 16 + n)) stuck) stuck

-- at most sixteen fields in each block, and room for all in the array
pub record Fits (ns : List ℕ) (fs : List Cell) : Type 0 where
  pub few : (k : ℕ) → get_or ns k 0 ≤ 16
  pub room : length ns * 16 ≤ length fs

-- the state with its blocks
unfoldable pub whole : List ℕ → List Cell → code.State → State
whole ns fs s = reblock (blocks_of ns fs) (view s)
