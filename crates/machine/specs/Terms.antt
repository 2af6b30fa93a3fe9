-- The terms of numbers, of cells, of instructions and of the machine, passed on as they are, for the specifications above.
pub use Rattle.numbers.specs.Numbers.{numbers, within, naturals}
pub use Rattle.cells.specs.Try.{Try, done, stuck}
unfoldable pub use Rattle.cells.specs.Try.{◌>>=◌}
pub use Rattle.cells.specs.declared.Value.{Value}
pub use Rattle.cells.specs.declared.Value.TheVariants.{Range, Handle}
pub use Rattle.cells.specs.declared.Cell.{Cell}
pub use Rattle.cells.specs.declared.Binary.{Binary}
pub use Rattle.cells.specs.declared.Binary.TheVariants.{Add, Subtract, Compare}
pub use Rattle.cells.specs.declared.Condition.TheVariants.{IsZero, IsNonzero, IsUnknown}
pub use Rattle.cells.specs.Cells.{unknown, handle, exactly, range, high}
unfoldable pub use Rattle.cells.specs.Cells.{between, condition}
pub use Rattle.cells.specs.Order.{Allowed, Refines}
pub use Rattle.instructions.specs.declared.Argument.{Argument}
pub use Rattle.instructions.specs.declared.Argument.TheVariants.{Absent, Target, Primitive, Within}
pub use Rattle.instructions.specs.declared.Operation.{Operation}
pub use Rattle.instructions.specs.declared.Operation.TheVariants.{Nothing, Access, Drop, Assign, Constant, Alter, Combine, GetField, SetField, Branch, BranchIf}
pub use Rattle.instructions.specs.declared.Operation.TheVariants.{BranchIfNot, Call, Stop}
pub use Rattle.instructions.specs.Kinds.{addresses}
unfoldable pub use Rattle.instructions.specs.Kinds.{kind_at, kind_names}
unfoldable pub use Rattle.machine.specs.Lists.{nth}
pub use Rattle.machine.specs.Machine.{State, Code, Instruction, Price, Next, stops, goes, opens}
unfoldable pub use Rattle.machine.specs.Machine.{step, height, jump, fetch}
pub use Rattle.machine.specs.Order.{Cellwise}
pub use Rattle.machine.specs.Forward.{Forward}
