pub mod Decision
pub mod Held
