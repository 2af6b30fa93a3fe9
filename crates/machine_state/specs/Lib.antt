pub mod HeldState
pub mod HeldProgram
pub mod HeldRegisters
