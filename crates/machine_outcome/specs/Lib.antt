pub mod HeldOutcome
