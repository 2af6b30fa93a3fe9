-- The former bounds beside today's, by computation: case 2 of document 01 with ACCU `1..5`, and a comparison that holds of every number.
-- Assumes nothing.
use mathlib.Core.Path.{◌≡◌, refl}
use mathlib.Core.List.{List, [], ◌∷◌}
use Prim.Native.Nat.{ℕ}
use lib.IntN.{pos}
use Rattle.text.specs.Text.{bytes, equals, find}
use Rattle.numbers.specs.Numbers.{wrap, holds, numbers}
use Rattle.cells.specs.Try.{◌>>=◌}
use Rattle.cells.specs.declared.Cell.{Cell}
use Rattle.cells.specs.Cells.{range, exactly, unknown, between, calculate₂, always, negated, judged, wider, range₂, map₂, operate₂, condition_in, condition}
use Rattle.merge_cells.specs.Merge.{merge_values, merge_cells}
use Rattle.instructions.specs.Kinds.{kinds, kind_names, operand, kind_at}
use Rattle.machine.specs.Lists.{nth, without}
use Rattle.machine.specs.Machine.{instruction, State, Instruction, Code, fetch, height, jump, load, restack, pop, advance, ahead, with_extra, ways, perform, prepare, execute, step}
use Rattle.bound_theory.specs.Tree.{expand, tree, steps, size, cycles, words, depth, Decision, T, worse, path, Report, report, accepted, judge, verdict, explore, bound}
use Rattle.merge_theory.specs.Merge.{merge_lists, merge_states, larger, settle, join, slot, nowhere, arrive, send, reach, finish, carry, visit, sweep, only, merged}
use Rattle.narrowing_ranges.specs.Former.{whole, former_value, former_state, is_wide, entry_wide, comparing, compares_unknown, forget, former_step, former_bound, former_merged}

abbrev line : List ℕ → ℕ → ℕ → Instruction
line name a c = instruction (kind_at (find name kind_names)) (pos a) (record { cycles = c; words = 0 }) 0

-- case 2
unfoldable pub code : Code
code = record { first = 0; instructions = line (bytes "BRANCHIF") 1 5 ∷ line (bytes "STOP") 0 1 ∷ [] }

-- a branch on whether ACCU is at least S0
unfoldable pub comparison : Code
comparison = record { first = 0; instructions = line (bytes "GEINT") 0 1 ∷ line (bytes "BRANCHIF") 2 5 ∷ line (bytes "STOP") 0 1 ∷ [] }

abbrev start : Cell → List Cell → State
start a cs = record { at = 0; accu = a; stack = cs; blocks = [] }

-- the lowest number, which every number is at least
abbrev lowest : Cell
lowest = range numbers.low 0

abbrev figures : ℕ → ℕ → ℕ → List Decision → Report
figures c d n ds = record { cycles = c; words = 0; depth = d; steps = n; path = ds }

abbrev Computed : Type 0
Computed =
    -- a range without 0 opens no second way; the former bound took it for `?`
    (bound code 1000 (start (between (pos 1) (pos 5)) []) ≡ accepted (figures 6 0 2 []))
    × (former_bound code 1000 (start (between (pos 1) (pos 5)) []) ≡ accepted (figures 6 0 3 (T ∷ [])))
    × (former_bound code 1000 (start unknown []) ≡ accepted (figures 6 0 3 (T ∷ [])))
    × (former_bound code 1000 (start (exactly (pos 7)) []) ≡ accepted (figures 6 0 2 []))
    × (former_merged code (start (between (pos 1) (pos 5)) []) ≡ accepted (figures 6 0 2 []))
    -- a comparison that holds of every number is known; with an unknown it was not
    × (bound comparison 1000 (start unknown (lowest ∷ [])) ≡ accepted (figures 7 1 3 []))
    × (former_bound comparison 1000 (start unknown (lowest ∷ [])) ≡ accepted (figures 7 1 4 (T ∷ [])))
    × (former_bound comparison 1000 (start (exactly (pos 7)) (lowest ∷ [])) ≡ accepted (figures 7 1 3 []))
    × (merged comparison (start unknown (lowest ∷ [])) ≡ accepted (figures 7 1 3 []))
    × (former_merged comparison (start unknown (lowest ∷ [])) ≡ accepted (figures 7 1 3 []))

pub computed : Computed
unfolding code comparison equals find wrap holds ◌>>=◌ calculate₂ always negated judged wider range₂ map₂ operate₂ condition_in condition kinds kind_names operand kind_at instruction nth without fetch height jump load restack pop advance ahead with_extra ways perform prepare execute step expand tree steps size cycles words depth worse path report judge verdict explore bound merge_values merge_cells merge_lists merge_states larger settle join slot nowhere arrive send reach finish carry visit sweep only merged between whole former_value former_state is_wide entry_wide comparing compares_unknown forget former_step former_bound former_merged
computed = (refl, refl, refl, refl, refl, refl, refl, refl, refl, refl)
