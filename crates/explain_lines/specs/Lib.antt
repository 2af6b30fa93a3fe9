pub mod Listing
pub mod Held
