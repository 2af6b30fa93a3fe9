-- What a turn of the explorer's loop comes to: of the registers alone, and, with the cells of the stack and of the blocks, the step that it is.
use Rattle.std.specs.Prelude.{◌+◌, ◌-◌, ◌≤◌, ◌<◌, ◌≡◌}
use Rattle.refusals.specs.Library.{ℕ, eqb, ltb, leb, ℤ, pos, length, get_or, set, Bool, true, false, cond, List}
use Rattle.machine.specs.Terms.{Try, done, stuck, ◌>>=◌, Cell, IsZero, IsNonzero, IsUnknown, unknown, exactly, condition, Operation, Nothing, Access, Drop, Assign}
use Rattle.machine.specs.Terms.{Constant, Alter, Combine, GetField, SetField, Branch, BranchIf, BranchIfNot, Call, Stop, Code, Instruction, Price, Next, stops, goes}
use Rattle.machine.specs.Terms.{opens, fetch}
use Rattle.cells.specs.declared.Condition.{Condition}
use Rattle.cells.specs.Cells.{operate₁}
use Rattle.machine.specs.Machine.{index, with_extra}
use Rattle.machine_state.specs.declared.registers.Registers.{Registers}
use Rattle.machine_state.specs.HeldRegisters.{with_stack, popped, stored, loaded, advanced, placed}
use Rattle.machine_state.specs.HeldState.{slot, whole}
use Rattle.machine_outcome.specs.HeldOutcome.{drops, operated}
use Rattle.bound_turns.specs.declared.Turn.{Turn}
use Rattle.bound_turns.specs.declared.Turn.TheVariants.{Goes, Jumps, Reads, Stores, Combines, Gets, Sets, Opens, Halts, Stuck}

-- the line at the registers' address, where the stack has room for its push
unfoldable pub reached : Code → Registers → Try Instruction
reached c r = fetch c r.at >>= λ i. cond i.pushes (cond (eqb r.free 0) stuck (done i)) (done i)

-- ---- the turn of an operation, on the registers r after the push

-- entry n, where there is one
unfoldable pub reading : ℕ → Registers → Turn
reading n r = cond (ltb n (64 - r.free)) (Reads (r.free + n)) Stuck

unfoldable pub storing : ℕ → Registers → Turn
storing n r = cond (ltb n (64 - r.free)) (Stores (r.free + n)) Stuck

-- n entries less, where there are so many, and a cell in the accumulator
unfoldable pub dropping : ℕ → Cell → Registers → Turn
dropping n c r = cond (leb n (64 - r.free)) (Goes (advanced (loaded c (popped n r)))) Stuck

-- the cell that an operation on the accumulator gives
unfoldable pub altering : Registers → Try Cell → Turn
altering r stuck = Stuck
altering r (done c) = Goes (advanced (loaded c r))

-- a conditional branch to n that jumps on zero or on non-zero
unfoldable pub branching : Bool → ℕ → Registers → Try Condition → Turn
branching z n r stuck = Stuck
branching true n r (done IsZero) = Jumps (placed n r)
branching false n r (done IsZero) = Goes (advanced r)
branching true n r (done IsNonzero) = Goes (advanced r)
branching false n r (done IsNonzero) = Jumps (placed n r)
branching z n r (done IsUnknown) = Opens

-- a field, where it is there
unfoldable pub getting : Try ℕ → Turn
getting stuck = Stuck
getting (done j) = Gets j

unfoldable pub setting : Try ℕ → Turn
setting stuck = Stuck
setting (done j) = Sets j

-- an operation with operand i, over blocks of the sizes ns
unfoldable pub turn : List ℕ → Operation → ℤ → Registers → Turn
turn ns Nothing i r = Goes (advanced r)
turn ns Access i r = reading (index i) r
turn ns Drop i r = dropping (index i) r.accu r
turn ns Assign i r = storing (index i) r
turn ns Constant i r = Goes (advanced (loaded (exactly i) r))
turn ns GetField i r = getting (slot ns r.accu (index i))
turn ns SetField i r = cond (ltb 0 (64 - r.free)) (setting (slot ns r.accu (index i))) Stuck
turn ns Branch i r = Goes (placed (index i) r)
turn ns BranchIf i r = branching false (index i) r (condition r.accu)
turn ns BranchIfNot i r = branching true (index i) r (condition r.accu)
turn ns Call i r = dropping (index i) unknown r
turn ns Stop i r = Halts
turn ns (Alter u) i r = altering r (operate₁ u i r.accu)
turn ns (Combine b) i r = cond (ltb 0 (64 - r.free)) Combines Stuck

-- ---- the step that a turn is

-- what the step of the operation o with operand i leads to, at the price p, with the extra x, from the registers r with the cells st of the
-- stack and fs of the blocks; d is where there is no cell
unfoldable pub turned : List ℕ → Price → ℕ → Operation → ℤ → Registers → List Cell → List Cell → Cell → Turn → Try Next
turned ns p x o i r fs st d (Goes v) = done (goes p (whole ns fs (with_stack v st)))
turned ns p x o i r fs st d (Jumps v) = done (goes (with_extra x p) (whole ns fs (with_stack v st)))
turned ns p x o i r fs st d (Reads k) = done (goes p (whole ns fs (with_stack (advanced (loaded (get_or st k d) r)) st)))
turned ns p x o i r fs st d (Stores k) = done (goes p (whole ns fs (with_stack (advanced (stored r)) (set st k r.accu))))
turned ns p x o i r fs st d Combines =
    operated o (pos 0) r.accu (get_or st r.free d) >>= λ c. done (goes p (whole ns fs (with_stack (advanced (loaded c (popped 1 r))) st)))
turned ns p x o i r fs st d (Gets j) = done (goes p (whole ns fs (with_stack (advanced (loaded (get_or fs j d) r)) st)))
turned ns p x o i r fs st d (Sets j) = done (goes p (whole ns (set fs j (get_or st r.free d)) (with_stack (advanced (stored (popped 1 r))) st)))
turned ns p x o i r fs st d Opens = done (opens p (whole ns fs (with_stack (advanced r) st)) (with_extra x p) (whole ns fs (with_stack (placed (index i) r) st)))
turned ns p x o i r fs st d Halts = done (stops p)
turned ns p x o i r fs st d Stuck = stuck

-- the places that a turn writes or reads are there, no more than 64 of the stack's are unused, and it combines where the operation does
abbrev pub Within : Operation → Registers → List Cell → Turn → Type 0
Within o r fs (Goes v) = v.free ≤ 64
Within o r fs (Jumps v) = v.free ≤ 64
Within o r fs (Reads k) = k < 64
Within o r fs (Stores k) = k < 64
Within o r fs Combines = (r.free + 1 ≤ 64) × (drops o 0 ≡ 1)
Within o r fs (Gets j) = j < length fs
Within o r fs (Sets j) = (j < length fs) × (r.free + 1 ≤ 64)
Within o r fs Opens = Unit {0}
Within o r fs Halts = Unit {0}
Within o r fs Stuck = Unit {0}
