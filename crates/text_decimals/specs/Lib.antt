pub mod Decimal
pub mod HeldMagnitude
pub mod Memory
