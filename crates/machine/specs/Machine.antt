-- The machine: its state, its code, and the one step that the bound and the run share. (document 01, Cells and machine)
use Rattle.std.specs.Prelude.{◌+◌, ◌-◌, ◌∷◌}
use Rattle.refusals.specs.Library.{ℕ, suc, ltb, ℤ, pos, negsuc, nat_abs, length, Bool, true, false, cond, List}
use Rattle.cells.specs.Try.{Try, stuck, done, ◌>>=◌}
use Rattle.cells.specs.declared.Cell.{Cell}
use Rattle.cells.specs.Cells.{exactly, operate₁, operate₂, condition, block}
use Rattle.cells.specs.declared.Condition.{Condition}
use Rattle.cells.specs.declared.Condition.TheVariants.{IsZero, IsNonzero, IsUnknown}
use Rattle.instructions.specs.Kinds.{calls, Kind, operand}
use Rattle.instructions.specs.declared.Argument.{Argument}
use Rattle.instructions.specs.declared.Argument.TheVariants.{Absent, Target, Primitive, Within}
use Rattle.instructions.specs.declared.Operation.{Operation}
use Rattle.instructions.specs.declared.Operation.TheVariants.{Nothing, Access, Drop, Assign, Constant, GetField, SetField, Branch, BranchIf, BranchIfNot, Call, Stop, Alter, Combine}
use Rattle.machine.specs.Lists.{nth, put, without}

-- "The state is an address, an accumulator, a stack of at most 64 cells (entry 0 on top) and at most eight blocks of sixteen fields
-- each." A block has the fields that the file names, sixteen at most.
pub record State : Type 0 where
  pub at : ℕ
  pub accu : Cell
  pub stack : List Cell
  pub blocks : List (List Cell)

-- "a stack of at most 64 cells"
abbrev pub stack_limit : ℕ
stack_limit = 64

-- the stack's height
unfoldable pub height : State → ℕ
height s = length s.stack

-- what a step costs, in cycles and in words
pub record Price : Type 0 where
  pub cycles : ℕ
  pub words : ℕ

-- an instruction of the code, as its kind and its argument say: whether it pushes first, its operation and operand, whether it calls a
-- primitive and so takes an answer, what it costs, and the "extra cycles when BRANCHIF or BRANCHIFNOT jumps" (document 02 §1)
pub record Instruction : Type 0 where
  pub pushes : Bool
  pub operation : Operation
  pub operand : ℤ
  pub calls : Bool
  pub price : Price
  pub extra : ℕ

-- the instruction of kind k with the argument a, at the price p, with the extra x
unfoldable pub instruction : Kind → ℤ → Price → ℕ → Instruction
instruction k a p x = record { pushes = k.pushes; operation = k.operation; operand = operand k a; calls = calls k.argument; price = p; extra = x }

-- prices by place: of the kinds and of the primitives, each on its line of names
pub record Prices : Type 0 where
  pub kinds : ℕ → Price
  pub primitives : ℕ → Price

-- two prices together
abbrev pub sum : Price → Price → Price
sum p q = record { cycles = p.cycles + q.cycles; words = p.words + q.words }

-- "A step costs its kind's price, a C_CALL also its primitive's."
unfoldable pub price_of : Prices → Argument → ℕ → ℤ → Price
price_of ps Absent k a = ps.kinds k
price_of ps Target k a = ps.kinds k
price_of ps Primitive k a = sum (ps.kinds k) (ps.primitives (nat_abs a))
price_of ps (Within r) k a = ps.kinds k

-- an operand that numbers an entry, a field, an address or a count of entries; no file has a negative one there
abbrev pub index : ℤ → ℕ
index (pos n) = n
index (negsuc n) = 0

-- the code: its instructions, and the address of the first
pub record Code : Type 0 where
  pub first : ℕ
  pub instructions : List Instruction

-- "Stuck: address outside the code", below it or above it
unfoldable pub fetch : Code → ℕ → Try Instruction
fetch c a = cond (ltb a c.first) stuck (nth (a - c.first) c.instructions)

-- what a step leads to: STOP, one way, or the two ways of an unknown branch, not taken and taken; each way with its price
pub data Next : Type 0 where
  stops : Price → Next
  goes : Price → State → Next
  opens : Price → State → Price → State → Next

-- a state with another address
unfoldable pub jump : ℕ → State → State
jump a s = record { at = a; accu = s.accu; stack = s.stack; blocks = s.blocks }

-- another accumulator
unfoldable pub load : Cell → State → State
load c s = record { at = s.at; accu = c; stack = s.stack; blocks = s.blocks }

-- another stack
unfoldable pub restack : List Cell → State → State
restack cs s = record { at = s.at; accu = s.accu; stack = cs; blocks = s.blocks }

-- other blocks
unfoldable pub reblock : List (List Cell) → State → State
reblock bs s = record { at = s.at; accu = s.accu; stack = s.stack; blocks = bs }

-- "PUSH: push accumulator"; "Stuck: .. a push on 64 entries"
unfoldable pub push : State → Try State
push s = cond (ltb (height s) stack_limit) (done (restack (s.accu ∷ s.stack) s)) stuck

-- "POP n (0 to 64): drop n."; "Stuck: .. an entry read, assigned or popped that is not there"
unfoldable pub pop : ℕ → State → Try State
pop n s = without n s.stack >>= λ cs. done (restack cs s)

-- "ASSIGN n (0 to 63): entry n becomes the accumulator, which becomes 0."; "Stuck: .. an entry read, assigned or popped that is not there"
unfoldable pub store : ℕ → State → Try State
store n s = put n s.accu s.stack >>= λ cs. done (load (exactly (pos 0)) (restack cs s))

-- "field n of the handled block"; "Stuck: .. a field access through a non-handle; a field the block lacks"
unfoldable pub get_field : ℕ → State → Try Cell
get_field n s =
    block s.accu >>= λ k.
    nth k s.blocks >>= λ b.
    nth n b

-- "field n becomes the popped entry"; stuck where `get_field` is
unfoldable pub set_field : ℕ → Cell → State → Try State
set_field n c s =
    block s.accu >>= λ k.
    nth k s.blocks >>= λ b.
    put n c b >>= λ b'.
    put k b' s.blocks >>= λ bs.
    done (reblock bs s)

-- "The address rises by one unless a branch jumps."
unfoldable pub advance : State → State
advance s = jump (suc s.at) s

-- a step that does not jump, at the price p
unfoldable pub ahead : Price → Try State → Try Next
ahead p m = m >>= λ s. done (goes p (advance s))

-- "A jump that is taken costs more": x cycles, and no word (document 02 §1)
unfoldable pub with_extra : ℕ → Price → Price
with_extra x p = record { cycles = p.cycles + x; words = p.words }

-- a conditional branch to a, with the extra x, that jumps on non-zero: "on an unknown opens two ways: not taken (N) first, then taken (T)"
unfoldable pub ways : Price → ℕ → ℕ → State → Condition → Next
ways p x a s IsZero = goes p (advance s)
ways p x a s IsNonzero = goes (with_extra x p) (jump a s)
ways p x a s IsUnknown = opens p (advance s) (with_extra x p) (jump a s)

-- "BRANCHIFNOT a on zero"
unfoldable pub opposite : Condition → Condition
opposite IsZero = IsNonzero
opposite IsNonzero = IsZero
opposite IsUnknown = IsUnknown

-- what an operation with operand i does, at the price p, with the extra x; r is the answer that a C_CALL gets
unfoldable pub perform : Price → ℕ → Cell → Operation → ℤ → State → Try Next
perform p x r Nothing i s = ahead p (done s)
-- "accumulator becomes entry n"
perform p x r Access i s = ahead p (nth (index i) s.stack >>= λ c. done (load c s))
perform p x r Drop i s = ahead p (pop (index i) s)
perform p x r Assign i s = ahead p (store (index i) s)
perform p x r Constant i s = ahead p (done (load (exactly i) s))
perform p x r (Alter u) i s = ahead p (operate₁ u i s.accu >>= λ c. done (load c s))
-- "accumulator on the left, popped entry on the right"
perform p x r (Combine b) i s = ahead p (nth 0 s.stack >>= λ c. operate₂ b s.accu c >>= λ d. pop 1 s >>= λ t. done (load d t))
perform p x r GetField i s = ahead p (get_field (index i) s >>= λ c. done (load c s))
-- "field n becomes the popped entry, accumulator 0"
perform p x r SetField i s = ahead p (nth 0 s.stack >>= λ c. pop 1 s >>= λ t. set_field (index i) c t >>= λ u. done (load (exactly (pos 0)) u))
perform p x r Branch i s = done (goes p (jump (index i) s))
perform p x r BranchIf i s = condition s.accu >>= λ c. done (ways p x (index i) s c)
perform p x r BranchIfNot i s = condition s.accu >>= λ c. done (ways p x (index i) s (opposite c))
-- "one fewer popped than the digit; blocks untouched"
perform p x r Call i s = ahead p (pop (index i) s >>= λ t. done (load r t))
perform p x r Stop i s = done (stops p)

-- "push, then ACC n on the longer stack"; "PUSHCONST0 to 3, PUSHCONSTINT i push first"
unfoldable pub prepare : Bool → State → Try State
prepare true s = push s
prepare false s = done s

-- an instruction, where a C_CALL gets the answer r
unfoldable pub execute : Cell → Instruction → State → Try Next
execute r i s = prepare i.pushes s >>= λ t. perform i.price i.extra r i.operation i.operand t

-- one step from s, where a C_CALL gets the answer r: unknown in the bound, a number in a run
unfoldable pub step : Code → Cell → State → Try Next
step c r s = fetch c s.at >>= λ i. execute r i s

-- whether the step from s takes an answer
unfoldable pub takes : Try Instruction → Bool
takes stuck = false
takes (done i) = i.calls

-- the same of a state: "A C_CALL takes the next answer off the list"
unfoldable pub takes_answer : Code → State → Bool
takes_answer c s = takes (fetch c s.at)
