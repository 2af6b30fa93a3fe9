pub mod HeldContract
pub mod HeldWays
