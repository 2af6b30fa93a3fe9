pub mod HeldRows
