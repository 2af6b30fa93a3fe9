-- The bounds as they were before ranges, over the same step and the same sweep: a cell is a single number, `?` or a handle.
-- "never above the former ones with `?` for each wider range, where both are accepted" (document 02 §12)
use Rattle.std.specs.Prelude.{◌||◌, ◌≡◌}
use Rattle.refusals.specs.Library.{ℕ, eqb, ltb, Bool, true, false, cond, map}
use Rattle.bound_theory.specs.Terms.{Report, Verdict, accepted, bound, opening_limit, numbers, Try, done, stuck, ◌>>=◌, Value, Range, Handle, Cell, Binary, Add, Subtract}
use Rattle.bound_theory.specs.Terms.{Compare, unknown, handle, range, between, high, Operation, Nothing, Access, Drop, Assign, Constant, Alter, Combine, GetField}
use Rattle.bound_theory.specs.Terms.{SetField, Branch, BranchIf, BranchIfNot, Call, Stop, nth, State, Code, Next, stops, goes, opens, fetch}
use Rattle.merge_cells.specs.Merge.{lower, upper}
use Rattle.machine.specs.Machine.{load, execute}
use Rattle.bound_theory.specs.Tree.{explore}
use Rattle.bound_theory.specs.Promises.{NoGreater}
use Rattle.merge_theory.specs.Merge.{sweep, span, only, none, merged}

-- `?`, which covers all numbers: the smallest range that covers these and all numbers of 31 bits
unfoldable pub whole : Value → Cell
whole (Range low more) = between (lower low numbers.low) (upper (high low more) numbers.high)
whole (Handle k) = handle k

-- "`?` for each wider range": a single number and a handle stay
unfoldable pub former_value : Value → Cell
former_value (Range low more) = cond (eqb more 0) (range low more) (whole (Range low more))
former_value (Handle k) = handle k

-- the same of a cell
abbrev pub former : Cell → Cell
former a = former_value a.value

-- and of each cell of a state: "unlike numbers become unknown" (document 02 §9) where ways have met
unfoldable pub former_state : State → State
former_state s = record { at = s.at; accu = former s.accu; stack = map former s.stack; blocks = map (map former) s.blocks }

-- whether a cell is a range of more than one number
unfoldable pub is_wide : Value → Bool
is_wide (Range low more) = ltb 0 more
is_wide (Handle k) = false

-- the same of an entry, if there is one
unfoldable pub entry_wide : Try Cell → Bool
entry_wide stuck = false
entry_wide (done a) = is_wide a.value

-- whether an operation on the accumulator and the top entry compares them, and one is unknown
unfoldable pub comparing : Binary → State → Bool
comparing Add s = false
comparing Subtract s = false
comparing (Compare c) s = is_wide s.accu.value || entry_wide (nth 0 s.stack)

-- the same of any operation
unfoldable pub compares_unknown : Operation → State → Bool
compares_unknown Nothing s = false
compares_unknown Access s = false
compares_unknown Drop s = false
compares_unknown Assign s = false
compares_unknown Constant s = false
compares_unknown (Alter u) s = false
compares_unknown (Combine b) s = comparing b s
compares_unknown GetField s = false
compares_unknown SetField s = false
compares_unknown Branch s = false
compares_unknown BranchIf s = false
compares_unknown BranchIfNot s = false
compares_unknown Call s = false
compares_unknown Stop s = false

-- "Arithmetic or comparison with an unknown gives an unknown." (document 01): what a comparison with one leads to
unfoldable pub forget : Bool → Next → Next
forget true (stops p) = stops p
forget true (goes p t) = goes p (load (whole t.accu.value) t)
forget true (opens p t q u) = opens p t q u
forget false n = n

-- one step of the former bounds
unfoldable pub former_step : Code → State → Try Next
former_step c s = fetch c s.at >>= λ i. execute unknown i (former_state s) >>= λ n. done (forget (compares_unknown i.operation (former_state s)) n)

-- the former bound
unfoldable pub former_bound : Code → ℕ → State → Verdict
former_bound c budget s = explore (former_step c) opening_limit budget s

-- the former merging bound
unfoldable pub former_merged : Code → State → Verdict
former_merged c s = sweep (former_step c) (span c s) s.at (only s) none

-- ---- the promises

-- where a former bound accepts, this one does, and its report is not above: for every code, BUDGET and start
abbrev pub BoundNotAboveFormer : Type 0
BoundNotAboveFormer = (c : Code) (budget : ℕ) (s : State) (q : Report) → former_bound c budget s ≡ accepted q → (r : Report) × (bound c budget s ≡ accepted r) × NoGreater r q

abbrev pub MergedNotAboveFormer : Type 0
MergedNotAboveFormer = (c : Code) (s : State) (q : Report) → former_merged c s ≡ accepted q → (r : Report) × (merged c s ≡ accepted r) × NoGreater r q
