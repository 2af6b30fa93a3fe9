pub mod HeldRoutine
