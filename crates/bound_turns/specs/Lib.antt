pub mod HeldTurn
