-- The table by columns of numbers, as the code has it: what stands in each column at a kind.
use Rattle.std.specs.Prelude.{◌+◌, ◌-◌, ◌*◌, ◌%◌, ◌≤◌, ◌<◌, ◌∷◌, ◌≡◌, None, Option, Some}
use Rattle.refusals.specs.Library.{ℕ, ℤ, pos, length, get_or, take, drop, List, []}
use Rattle.numbers.specs.declared.Range.{Range}
use Rattle.numbers.specs.Numbers.{naturals}
use Rattle.numbers.specs.declared.Comparison.{Comparison}
use Rattle.numbers.specs.declared.Comparison.TheVariants.{Equal, Unequal, Less, AtMost, Greater, AtLeast}
use Rattle.cells.specs.declared.Unary.{Unary}
use Rattle.cells.specs.declared.Unary.TheVariants.{Offset, Negate, Complement}
use Rattle.cells.specs.declared.Binary.{Binary}
use Rattle.cells.specs.declared.Binary.TheVariants.{Add, Subtract, Compare}
use Rattle.instructions.specs.declared.Argument.{Argument}
use Rattle.instructions.specs.declared.Argument.TheVariants.{Absent, Target, Primitive, Within}
use Rattle.instructions.specs.declared.Operation.{Operation}
use Rattle.instructions.specs.declared.Operation.TheVariants.{Nothing, Access, Drop, Assign, Constant, GetField, SetField, Branch, BranchIf, BranchIfNot, Call, Stop, Alter, Combine}
use Rattle.instructions.specs.Kinds.{addresses, kind_names, kind_at}
use Rattle.instructions.specs.Opcodes.{kind_coded}

-- where each of the given words begins in a text of them, parted by single spaces, from s on; at the end, where one more would
abbrev pub starts_from : ℕ → List (List ℕ) → List ℕ
starts_from s [] = s ∷ []
starts_from s (w ∷ ws) = s ∷ starts_from (s + length w + 1) ws

-- where name k begins in the text of all names
abbrev pub name_start : ℕ → ℕ
name_start k = get_or (starts_from 0 kind_names) k 0

-- a number by which the code tells the names of the kinds apart: from the first two bytes of a word, its last and its length
abbrev pub name_key : List ℕ → ℕ
name_key w = (get_or w 0 0 + get_or w 1 0 + 5 * get_or w (length w - 1) 0 + 9 * length w) % 256

-- t holds at the key of each name its kind, and everywhere a kind
pub record Keyed (t : List ℕ) : Type 0 where
  pub at_key : (k : ℕ) → k < 61 → get_or t (name_key (kind_at k).name) 0 ≡ k
  pub low : (i : ℕ) → get_or t i 0 < 61

-- t holds where each name begins in the text of all names, and at 61 where a name after the last would
pub record Begins (t : List ℕ) : Type 0 where
  pub at_kind : (k : ℕ) → k ≤ 61 → get_or t k 0 ≡ name_start k

-- t is the text of all names: each stands from where it begins up to the space before the next
pub record Joined (t : List ℕ) : Type 0 where
  pub size : length t ≡ 474
  pub at_start : (k : ℕ) → k < 61 → take (name_start (k + 1) - 1 - name_start k) (drop (name_start k) t) ≡ (kind_at k).name

-- what a kind takes
unfoldable pub argument_code : Argument → ℕ
argument_code Absent = 0
argument_code (Within r) = 1
argument_code Target = 2
argument_code Primitive = 3

-- the range of the number or the target that a kind takes; 0 to 0 where it takes neither
unfoldable pub range_of : Argument → Range
range_of Absent = naturals 0 0
range_of (Within r) = r
range_of Target = addresses
range_of Primitive = naturals 0 0

-- t holds the code of what each kind takes
pub record Codes (t : List ℕ) : Type 0 where
  pub at_kind : (k : ℕ) → k < 61 → get_or t k 0 ≡ argument_code (kind_at k).argument

-- t holds the lower end of the range of each kind
pub record Lows (t : List ℤ) : Type 0 where
  pub at_kind : (k : ℕ) → k < 61 → get_or t k (pos 0) ≡ (range_of (kind_at k).argument).low

-- t holds the upper end
pub record Highs (t : List ℤ) : Type 0 where
  pub at_kind : (k : ℕ) → k < 61 → get_or t k (pos 0) ≡ (range_of (kind_at k).argument).high

-- the code of each comparison
unfoldable pub comparison_code : Comparison → ℕ
comparison_code Equal = 17
comparison_code Unequal = 18
comparison_code Less = 19
comparison_code AtMost = 20
comparison_code Greater = 21
comparison_code AtLeast = 22

-- of each operation on two cells
unfoldable pub binary_code : Binary → ℕ
binary_code Add = 15
binary_code Subtract = 16
binary_code (Compare c) = comparison_code c

-- of each operation on the accumulator alone
unfoldable pub unary_code : Unary → ℕ
unary_code Offset = 5
unary_code Negate = 6
unary_code Complement = 7

-- of each operation
unfoldable pub operation_code : Operation → ℕ
operation_code Nothing = 0
operation_code Access = 1
operation_code Drop = 2
operation_code Assign = 3
operation_code Constant = 4
operation_code (Alter u) = unary_code u
operation_code GetField = 8
operation_code SetField = 9
operation_code Branch = 10
operation_code BranchIf = 11
operation_code BranchIfNot = 12
operation_code Call = 13
operation_code Stop = 14
operation_code (Combine b) = binary_code b

-- the operations in the order of their codes
unfoldable pub operations : List Operation
operations =
    Nothing ∷ Access ∷ Drop ∷ Assign ∷ Constant ∷ Alter Offset ∷ Alter Negate ∷ Alter Complement
    ∷ GetField ∷ SetField ∷ Branch ∷ BranchIf ∷ BranchIfNot ∷ Call ∷ Stop ∷ Combine Add ∷ Combine Subtract
    ∷ Combine (Compare Equal) ∷ Combine (Compare Unequal) ∷ Combine (Compare Less) ∷ Combine (Compare AtMost) ∷ Combine (Compare Greater) ∷ Combine (Compare AtLeast) ∷ []

-- the operation of a code
unfoldable pub operation_of : ℕ → Operation
operation_of k = get_or operations k Stop

-- a place as the code holds it: 61 where there is none
unfoldable pub coded_place : Option ℕ → ℕ
coded_place (Some k) = k
coded_place None = 61

-- t holds at each opcode below 144 the place of its kind
pub record ByOpcode (t : List ℕ) : Type 0 where
  pub at_opcode : (n : ℕ) → n < 144 → get_or t n 0 ≡ coded_place (kind_coded n)
