-- The merging bound on small routines, by computation. Assumes nothing.
use mathlib.Core.Path.{◌≡◌, refl}
use mathlib.Core.List.{List, [], ◌∷◌}
use Prim.Native.Nat.{ℕ, zero, suc}
use lib.IntN.{pos}
use Rattle.text.specs.Text.{bytes, equals, find}
use Rattle.numbers.specs.Numbers.{wrap, holds}
use Rattle.refusals.specs.declared.Refusal.TheVariants.{Stuck, NoMeeting}
use Rattle.cells.specs.Try.{◌>>=◌}
use Rattle.cells.specs.declared.Cell.{Cell}
use Rattle.cells.specs.Cells.{exactly, unknown, between, handle, calculate₂, results, range₂, wider, map₂, operate₂, condition_in, condition}
use Rattle.merge_cells.specs.Merge.{merge_values, merge_cells}
use Rattle.instructions.specs.Kinds.{kinds, kind_names, operand, kind_at}
use Rattle.machine.specs.Lists.{nth, without}
use Rattle.machine.specs.Machine.{instruction, State, Instruction, Code, fetch, height, jump, load, restack, push, pop, advance, ahead, with_extra, ways, perform, prepare, execute, step}
use Rattle.bound_theory.specs.Tree.{Verdict, accepted, refused}
use Rattle.bound_theory.proofs.Interrupted as case-1
use Rattle.merge_theory.specs.Merge.{merge_lists, merge_states, larger, settle, join, slot, nowhere, arrive, send, reach, finish, carry, visit, sweep, only, merged}

abbrev line : List ℕ → ℕ → ℕ → ℕ → ℕ → Instruction
line name a c w x = instruction (kind_at (find name kind_names)) (pos a) (record { cycles = c; words = w }) x

-- at 1 cycle and no word
abbrev plain : List ℕ → ℕ → Instruction
plain name a = line name a 1 0 0

abbrev code : List Instruction → Code
code is = record { first = 0; instructions = is }

abbrev begins : Cell → List Cell → State
begins a cs = record { at = 0; accu = a; stack = cs; blocks = [] }

abbrev figures : ℕ → ℕ → ℕ → ℕ → Verdict
figures c w d n = accepted (record { cycles = c; words = w; depth = d; steps = n; path = [] })

-- n times the same
unfoldable pub repeat : ℕ → Instruction → List Instruction → List Instruction
repeat zero i is = is
repeat (suc n) i is = i ∷ repeat n i is

-- one constant on each way of an unknown branch; where they meet, another branch
abbrev constants : List ℕ → List ℕ → Code
constants one other =
    code (plain (bytes "BRANCHIF") 3 ∷ plain one 0 ∷ plain (bytes "BRANCH") 4 ∷ plain other 0
    ∷ plain (bytes "BRANCHIF") 6 ∷ plain (bytes "STOP") 0 ∷ plain (bytes "STOP") 0 ∷ [])

pub examples :
    -- case 1 of document 01: ADDINT has popped on one way to 4 only
    (merged case-1.code case-1.bounded ≡ refused (NoMeeting 4))
    -- case 2: both ways of the branch meet at 1, and the larger sum stays: with an extra of 3, that of the taken way
    × (merged (code (line (bytes "BRANCHIF") 1 5 0 0 ∷ line (bytes "STOP") 0 1 0 0 ∷ [])) (begins unknown []) ≡ figures 6 0 0 2)
    × (merged (code (line (bytes "BRANCHIF") 1 5 0 3 ∷ line (bytes "STOP") 0 1 0 0 ∷ [])) (begins unknown []) ≡ figures 9 0 0 2)
    -- case 3
    × (merged (code (line (bytes "STOP") 0 0 0 0 ∷ [])) (begins (exactly (pos 0)) []) ≡ figures 0 0 0 1)
    -- case 4: CYCLES and WORDS are those of different ways
    × (merged (code (line (bytes "BRANCHIF") 3 1 0 0 ∷ line (bytes "C_CALL1") 0 11 1 0 ∷ line (bytes "STOP") 0 1 0 0 ∷ line (bytes "C_CALL1") 0 5 9 0 ∷ line (bytes "STOP") 0 1 0 0 ∷ []))
    (begins unknown []) ≡ figures 13 9 0 5)
    -- "A merge takes the smallest range that covers both.": from 0 to 2 the branch opens both ways, from 1 to 2 one; "equal cells stay"
    × (merged (constants (bytes "CONST0") (bytes "CONST2")) (begins unknown []) ≡ figures 5 0 0 7)
    × (merged (constants (bytes "CONST1") (bytes "CONST2")) (begins unknown []) ≡ figures 5 0 0 6)
    × (merged (constants (bytes "CONST1") (bytes "CONST1")) (begins unknown []) ≡ figures 5 0 0 6)
    -- "stack heights differ at a meeting"
    × (merged (code (plain (bytes "BRANCHIF") 2 ∷ plain (bytes "PUSH") 0 ∷ plain (bytes "STOP") 0 ∷ [])) (begins unknown []) ≡ refused (NoMeeting 2))
    -- "a cell is a handle on one way and anything else on the other": an unknown, another handle
    × (merged (code (plain (bytes "BRANCHIF") 2 ∷ plain (bytes "ACC0") 0 ∷ plain (bytes "STOP") 0 ∷ [])) (begins unknown (handle 0 ∷ [])) ≡ refused (NoMeeting 2))
    × (merged (constants (bytes "ACC0") (bytes "ACC1")) (begins unknown (handle 0 ∷ handle 1 ∷ [])) ≡ refused (NoMeeting 4))
    -- "14 comes before 7 there": the step at 2 would be stuck on both ways
    × (merged (code (plain (bytes "BRANCHIF") 2 ∷ plain (bytes "PUSH") 0 ∷ plain (bytes "ACC7") 0 ∷ [])) (begins unknown []) ≡ refused (NoMeeting 2))
    -- "the lowest address with a 14 or a 7 decides": a 7 at 2 before a 14 at 3
    × (merged (code (plain (bytes "BRANCHIF") 3 ∷ plain (bytes "PUSH") 0 ∷ plain (bytes "ACC7") 0 ∷ plain (bytes "STOP") 0 ∷ [])) (begins unknown []) ≡ refused (Stuck 2))
    -- the address after the last
    × (merged (code (plain (bytes "PUSH") 0 ∷ [])) (begins unknown []) ≡ refused (Stuck 1))
    -- ninety tests, each to the STOP after them: 91 addresses
    × (merged (code (repeat 90 (plain (bytes "BRANCHIF") 90) (plain (bytes "STOP") 0 ∷ []))) (begins unknown []) ≡ figures 91 0 0 91)
unfolding case-1.code repeat equals find wrap holds ◌>>=◌ calculate₂ results range₂ wider map₂ operate₂ condition_in condition kinds kind_names operand kind_at instruction nth without fetch height jump load restack push pop advance ahead with_extra ways perform prepare execute step between merge_values merge_cells merge_lists merge_states larger settle join slot nowhere arrive send reach finish carry visit sweep only merged
examples = (refl, refl, refl, refl, refl, refl, refl, refl, refl, refl, refl, refl, refl, refl, refl)
