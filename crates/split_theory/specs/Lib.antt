pub mod Split
pub mod Promises
pub mod Held
