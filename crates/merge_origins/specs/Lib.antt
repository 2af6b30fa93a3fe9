pub mod HeldOrigins
