pub mod Layout
pub mod Rows
pub mod Routine
pub mod Terms
pub mod HeldLayout
