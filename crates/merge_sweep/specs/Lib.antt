pub mod HeldPass
