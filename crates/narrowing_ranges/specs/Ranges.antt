-- The reports of a routine with ranges beside those of the same routine with `?` for each wider range. (document 02 §12)
use Rattle.std.specs.Prelude.{◌≡◌}
use Rattle.refusals.specs.Library.{ℕ, eqb, cond, List, map}
use Rattle.bound_theory.specs.Terms.{Report, accepted, bound, Value, Range, Handle, Cell, unknown, handle, range, State}
use Rattle.text.specs.Text.{Line}
use Rattle.bound_theory.specs.Promises.{NoGreater}
use Rattle.merge_theory.specs.Merge.{merged}
use Rattle.file_format.specs.Routine.{routine_of}

-- "`?` for each wider range": a single number and a handle stay
unfoldable pub widen_value : Value → Cell
widen_value (Range low more) = cond (eqb more 0) (range low more) unknown
widen_value (Handle k) = handle k

-- the same of a cell
unfoldable pub widen : Cell → Cell
widen a = widen_value a.value

-- and of each cell of a state
unfoldable pub widen_state : State → State
widen_state s = record { at = s.at; accu = widen s.accu; stack = map widen s.stack; blocks = map (map widen) s.blocks }

-- "never above the former ones with `?` for each wider range, where both are accepted": of the start that the lines of a file hold, under any
-- BUDGET
abbrev pub BoundNeverAbove : Type 0
BoundNeverAbove =
    (ls : List Line) (budget : ℕ) (r q : Report) → bound (routine_of ls).code budget (routine_of ls).start ≡ accepted r
    → bound (routine_of ls).code budget (widen_state (routine_of ls).start) ≡ accepted q → NoGreater r q

-- the same of the merging bound
abbrev pub MergedNeverAbove : Type 0
MergedNeverAbove =
    (ls : List Line) (r q : Report) → merged (routine_of ls).code (routine_of ls).start ≡ accepted r
    → merged (routine_of ls).code (widen_state (routine_of ls).start) ≡ accepted q → NoGreater r q
