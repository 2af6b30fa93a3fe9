pub mod HeldProgress
pub mod HeldContract
