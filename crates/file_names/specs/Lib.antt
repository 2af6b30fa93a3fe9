pub mod HeldNames
