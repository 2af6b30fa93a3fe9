-- Code without jumps backwards: "A branch to its own address or a lower one is refused" (document 02 §8)
use Rattle.std.specs.Prelude.{◌<◌, ◌≡◌}
use Rattle.refusals.specs.Library.{ℕ, Bool, true, false}
use Rattle.cells.specs.Try.{done}
use Rattle.instructions.specs.declared.Operation.{Operation}
use Rattle.instructions.specs.declared.Operation.TheVariants.{Nothing, Access, Drop, Assign, Constant, GetField, SetField, Branch, BranchIf, BranchIfNot, Call, Stop, Alter, Combine}
use Rattle.machine.specs.Machine.{index, Instruction, Code, fetch}

-- whether an operation may jump
abbrev pub branches : Operation → Bool
branches Nothing = false
branches Access = false
branches Drop = false
branches Assign = false
branches Constant = false
branches (Alter u) = false
branches (Combine b) = false
branches GetField = false
branches SetField = false
branches Branch = true
branches BranchIf = true
branches BranchIfNot = true
branches Call = false
branches Stop = false

-- every branch of the code, reached or not, jumps to a higher address than its own
pub record Forward (c : Code) : Type 0 where
  pub above : (a : ℕ) (i : Instruction) → fetch c a ≡ done i → branches i.operation ≡ true → a < index i.operand
