-- Code whose branches stay inside it: refusal 6, "target not an address of the code"
use Rattle.std.specs.Prelude.{◌+◌, ◌<◌, ◌≡◌}
use Rattle.refusals.specs.Library.{ℕ, length, true}
use Rattle.cells.specs.Try.{done}
use Rattle.machine.specs.Machine.{index, Instruction, Code, fetch}
use Rattle.machine.specs.Forward.{branches}

-- every branch of the code, reached or not, jumps to no address after the code
pub record Closed (c : Code) : Type 0 where
  pub inside : (a : ℕ) (i : Instruction) → fetch c a ≡ done i → branches i.operation ≡ true → index i.operand < c.first + length c.instructions
