pub mod HeldCode
