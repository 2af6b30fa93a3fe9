pub mod HeldLasts
