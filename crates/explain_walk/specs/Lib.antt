pub mod Walk
pub mod Promises
pub mod Held
