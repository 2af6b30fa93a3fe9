-- What an operation comes to before the state is changed, in the code's own type: the step and the explorer share it, and each changes its
-- own state and blocks.
use Rattle.std.specs.Prelude.{◌≤◌, ◌<◌, ◌≡◌}
use Rattle.refusals.specs.Library.{ℕ, ltb, leb, ℤ, pos, Bool, true, false, cond}
use Rattle.machine.specs.Terms.{Try, done, stuck, ◌>>=◌, Cell, IsZero, IsNonzero, IsUnknown, exactly, condition, Operation, Nothing, Access, Drop, Assign, Constant}
use Rattle.machine.specs.Terms.{Alter, Combine, GetField, SetField, Branch, BranchIf, BranchIfNot, Call, Stop, State, Price, Next, stops, goes, opens, jump}
use Rattle.cells.specs.declared.Condition.{Condition}
use Rattle.cells.specs.Cells.{operate₁, operate₂}
use Rattle.machine.specs.Machine.{index, with_extra, load, pop, store, get_field, set_field}
use Rattle.machine_outcome.specs.declared.Outcome.{Outcome}
use Rattle.machine_outcome.specs.declared.Outcome.TheVariants.{Gives, Operates, Stores, Sets, Gets, Goes, Jumps, Opens, Halts, Stuck}

-- the entry that an operation looks at: entry n, or the top
unfoldable pub entry_of : Operation → ℕ → ℕ
entry_of Nothing n = 0
entry_of Access n = n
entry_of Drop n = 0
entry_of Assign n = 0
entry_of Constant n = 0
entry_of GetField n = 0
entry_of SetField n = 0
entry_of Branch n = 0
entry_of BranchIf n = 0
entry_of BranchIfNot n = 0
entry_of Call n = 0
entry_of Stop n = 0
entry_of (Alter u) n = 0
entry_of (Combine b) n = 0

-- how many entries an operation that gives a cell drops
unfoldable pub drops : Operation → ℕ → ℕ
drops Nothing n = 0
drops Access n = 0
drops Drop n = n
drops Assign n = 0
drops Constant n = 0
drops GetField n = 0
drops SetField n = 0
drops Branch n = 0
drops BranchIf n = 0
drops BranchIfNot n = 0
drops Call n = n
drops Stop n = 0
drops (Alter u) n = 0
drops (Combine b) n = 1

-- whether an operation is one on cells: on the accumulator, or on it and the popped entry
unfoldable pub is_on_cells : Operation → Bool
is_on_cells Nothing = false
is_on_cells Access = false
is_on_cells Drop = false
is_on_cells Assign = false
is_on_cells Constant = false
is_on_cells GetField = false
is_on_cells SetField = false
is_on_cells Branch = false
is_on_cells BranchIf = false
is_on_cells BranchIfNot = false
is_on_cells Call = false
is_on_cells Stop = false
is_on_cells (Alter u) = true
is_on_cells (Combine b) = true

-- what an operation on cells gives, with the operand i, the accumulator a and the entry e
unfoldable pub operated : Operation → ℤ → Cell → Cell → Try Cell
operated Nothing i a e = stuck
operated Access i a e = stuck
operated Drop i a e = stuck
operated Assign i a e = stuck
operated Constant i a e = stuck
operated GetField i a e = stuck
operated SetField i a e = stuck
operated Branch i a e = stuck
operated BranchIf i a e = stuck
operated BranchIfNot i a e = stuck
operated Call i a e = stuck
operated Stop i a e = stuck
operated (Alter u) i a e = operate₁ u i a
operated (Combine b) i a e = operate₂ b a e

-- a conditional branch that jumps on zero or on non-zero, with the accumulator a
unfoldable pub branching : Bool → Cell → Try Condition → Outcome
branching z a stuck = Stuck
branching true a (done IsZero) = Jumps
branching false a (done IsZero) = Gives a
branching true a (done IsNonzero) = Gives a
branching false a (done IsNonzero) = Jumps
branching z a (done IsUnknown) = Opens

-- an operation with operand i and answer r, on a stack of height h, with the accumulator a and the entry e that it looks at
unfoldable pub outcome : Operation → ℤ → Cell → ℕ → Cell → Cell → Outcome
outcome Nothing i r h a e = Gives a
outcome Access i r h a e = cond (ltb (index i) h) (Gives e) Stuck
outcome Drop i r h a e = cond (leb (index i) h) (Gives a) Stuck
outcome Assign i r h a e = cond (ltb (index i) h) Stores Stuck
outcome Constant i r h a e = Gives (exactly i)
outcome GetField i r h a e = Gets
outcome SetField i r h a e = cond (ltb 0 h) (Sets e) Stuck
outcome Branch i r h a e = Goes
outcome BranchIf i r h a e = branching false a (condition a)
outcome BranchIfNot i r h a e = branching true a (condition a)
outcome Call i r h a e = cond (leb (index i) h) (Gives r) Stuck
outcome Stop i r h a e = Halts
outcome (Alter u) i r h a e = Operates
outcome (Combine b) i r h a e = cond (ltb 0 h) Operates Stuck

-- what an outcome of the operation o with operand i makes of the state s, which is at the next address already, at the price p, with the
-- extra x; e is the entry that the operation looked at
unfoldable pub resume : Price → ℕ → Operation → ℤ → State → Cell → Outcome → Try Next
resume p x o i s e (Gives c) = pop (drops o (index i)) s >>= λ t. done (goes p (load c t))
resume p x o i s e Operates = operated o i s.accu e >>= λ c. pop (drops o (index i)) s >>= λ t. done (goes p (load c t))
resume p x o i s e Stores = store (index i) s >>= λ t. done (goes p t)
resume p x o i s e (Sets c) = pop 1 s >>= λ t. set_field (index i) c t >>= λ u. done (goes p (load (exactly (pos 0)) u))
resume p x o i s e Gets = get_field (index i) s >>= λ c. done (goes p (load c s))
resume p x o i s e Goes = done (goes p (jump (index i) s))
resume p x o i s e Jumps = done (goes (with_extra x p) (jump (index i) s))
resume p x o i s e Opens = done (opens p s (with_extra x p) (jump (index i) s))
resume p x o i s e Halts = done (stops p)
resume p x o i s e Stuck = stuck

-- what an outcome asks of a stack of height h
abbrev pub Room : Operation → ℕ → ℕ → Outcome → Type 0
Room o n h (Gives c) = drops o n ≤ h
Room o n h Operates = (drops o n ≤ h) × (is_on_cells o ≡ true)
Room o n h Stores = n < h
Room o n h (Sets c) = 0 < h
Room o n h Gets = Unit {0}
Room o n h Goes = Unit {0}
Room o n h Jumps = Unit {0}
Room o n h Opens = Unit {0}
Room o n h Halts = Unit {0}
Room o n h Stuck = Unit {0}
