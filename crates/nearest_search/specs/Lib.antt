pub mod Search
pub mod Promises
pub mod Held
