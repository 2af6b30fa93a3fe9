-- Worked examples of a step: what document 01 warns of under "Mistakes a bench would pass". Assumes nothing.
use mathlib.Core.Path.{◌≡◌, refl}
use mathlib.Core.List.{List, [], ◌∷◌}
use Prim.Native.Nat.{ℕ}
use lib.IntN.{ℤ, pos, negsuc}
use Rattle.text.specs.Text.{bytes, find, equals}
use Rattle.numbers.specs.Numbers.{wrap, holds}
use Rattle.cells.specs.Try.{stuck, done, ◌>>=◌}
use Rattle.cells.specs.declared.Cell.{Cell}
use Rattle.cells.specs.Cells as cells
use Rattle.cells.specs.Cells.{range, exactly, unknown, handle, calculate₁, calculate₂, results, range₂, wider, judged, always, map₁, map₂, operate₁, operate₂, condition_in, condition, handled, block}
use Rattle.instructions.specs.Kinds.{kinds, kind_names, operand, kind_at}
use Rattle.machine.specs.Lists.{nth, put, without}
use Rattle.machine.specs.Machine.{instruction, State, Price, Code, fetch, goes, opens, height, jump, load, restack, reblock, push, pop, store, get_field, set_field, advance, ahead, with_extra, ways, opposite, perform, prepare, execute, step}

-- one instruction of the kind that is named, with its argument, at address 5 and at the price of 3 cycles, and 4 more if it jumps
abbrev price : Price
price = record { cycles = 3; words = 1 }

abbrev jumping : Price
jumping = record { cycles = 7; words = 1 }

abbrev one : List ℕ → ℤ → Code
one name a = record { first = 5; instructions = instruction (kind_at (find name kind_names)) a price 4 ∷ [] }

abbrev state : ℕ → Cell → List Cell → State
state a c cs = record { at = a; accu = c; stack = cs; blocks = (exactly (pos 8) ∷ unknown ∷ []) ∷ [] }

pub examples :
    -- "here ADDINT always pops", an unknown operand or not
    (step (one (bytes "ADDINT") (pos 0)) unknown (state 5 unknown (exactly (pos 4) ∷ handle 0 ∷ [])) ≡ done (goes price (state 6 unknown (handle 0 ∷ []))))
    × (step (one (bytes "ADDINT") (pos 0)) unknown (state 5 (exactly (pos 3)) (exactly (pos 4) ∷ [])) ≡ done (goes price (state 6 (exactly (pos 7)) [])))
    -- "a comparison gives 1 if it holds for every pair of numbers in the two ranges, 0 if for none, else 0 to 1" (document 02 §12)
    × (step (one (bytes "LTINT") (pos 0)) unknown (state 5 (range (pos 0) 1008) (exactly (pos 1009) ∷ [])) ≡ done (goes price (state 6 (exactly (pos 1)) [])))
    × (step (one (bytes "EQ") (pos 0)) unknown (state 5 (range (pos 0) 1008) (exactly (pos 1009) ∷ [])) ≡ done (goes price (state 6 (exactly (pos 0)) [])))
    × (step (one (bytes "LTINT") (pos 0)) unknown (state 5 (range (pos 0) 1008) (exactly (pos 1008) ∷ [])) ≡ done (goes price (state 6 (range (pos 0) 1) [])))
    -- "A condition whose range lacks 0, or is only 0, opens no second way."; "the least to the greatest result"
    × (step (one (bytes "BRANCHIF") (pos 9)) unknown (state 5 (range (pos 1) 7) []) ≡ done (goes jumping (state 9 (range (pos 1) 7) [])))
    × (step (one (bytes "SUBINT") (pos 0)) unknown (state 5 (range (pos 10) 2) (range (pos 1) 3 ∷ [])) ≡ done (goes price (state 6 (range (pos 6) 5) [])))
    -- "push, then ACC n on the longer stack"
    × (step (one (bytes "PUSHACC0") (pos 0)) unknown (state 5 (exactly (pos 3)) (exactly (pos 4) ∷ [])) ≡ done (goes price (state 6 (exactly (pos 3)) (exactly (pos 3) ∷ exactly (pos 4) ∷ []))))
    × (step (one (bytes "PUSHACC") (pos 1)) unknown (state 5 (exactly (pos 3)) (exactly (pos 4) ∷ [])) ≡ done (goes price (state 6 (exactly (pos 4)) (exactly (pos 3) ∷ exactly (pos 4) ∷ []))))
    -- "accumulator on the left, popped entry on the right"
    × (step (one (bytes "SUBINT") (pos 0)) unknown (state 5 (exactly (pos 3)) (exactly (pos 4) ∷ [])) ≡ done (goes price (state 6 (exactly (negsuc 0)) [])))
    × (step (one (bytes "LTINT") (pos 0)) unknown (state 5 (exactly (pos 3)) (exactly (pos 4) ∷ [])) ≡ done (goes price (state 6 (exactly (pos 1)) [])))
    -- "one fewer popped than the digit", and the answer
    × (step (one (bytes "C_CALL2") (pos 0)) (exactly (pos 9)) (state 5 (exactly (pos 3)) (exactly (pos 4) ∷ [])) ≡ done (goes price (state 6 (exactly (pos 9)) [])))
    -- "not taken (N) first, then taken (T)"
    × (step (one (bytes "BRANCHIFNOT") (pos 9)) unknown (state 5 unknown []) ≡ done (opens price (state 6 unknown []) jumping (state 9 unknown [])))
    -- "extra cycles when BRANCHIF or BRANCHIFNOT jumps": on a known condition too, and not where it does not jump; none for BRANCH
    × (step (one (bytes "BRANCHIFNOT") (pos 9)) unknown (state 5 (exactly (pos 0)) []) ≡ done (goes jumping (state 9 (exactly (pos 0)) [])))
    × (step (one (bytes "BRANCHIFNOT") (pos 9)) unknown (state 5 (exactly (pos 1)) []) ≡ done (goes price (state 6 (exactly (pos 1)) [])))
    × (step (one (bytes "BRANCHIF") (pos 9)) unknown (state 5 (exactly (pos 1)) []) ≡ done (goes jumping (state 9 (exactly (pos 1)) [])))
    × (step (one (bytes "BRANCH") (pos 9)) unknown (state 5 unknown []) ≡ done (goes price (state 9 unknown [])))
    -- "Stuck: address outside the code", below it too; "a field the block lacks"; "a handle in arithmetic"
    × (step (one (bytes "STOP") (pos 0)) unknown (state 4 unknown []) ≡ stuck)
    × (step (one (bytes "GETFIELD2") (pos 0)) unknown (state 5 (handle 0) []) ≡ stuck)
    × (step (one (bytes "ADDINT") (pos 0)) unknown (state 5 (handle 0) (unknown ∷ [])) ≡ stuck)
unfolding equals find kind_names wrap holds ◌>>=◌ calculate₁ calculate₂ results range₂ wider judged always cells.negated map₁ map₂ operate₁ operate₂ condition_in condition handled block kinds operand kind_at instruction nth put without fetch height jump load restack reblock push pop store get_field set_field advance ahead with_extra ways opposite perform prepare execute step
examples = (refl, refl, refl, refl, refl, refl, refl, refl, refl, refl, refl, refl, refl, refl, refl, refl, refl, refl, refl, refl)
