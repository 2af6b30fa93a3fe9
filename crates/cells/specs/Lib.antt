pub mod Try
pub mod Cells
pub mod Order
pub mod Covering
pub mod HeldConfined
pub mod HeldSmall
pub mod Promises
