pub mod HeldEffect
pub mod HeldStep
