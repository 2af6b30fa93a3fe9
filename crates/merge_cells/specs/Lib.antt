pub mod Merge
pub mod HeldCodes
