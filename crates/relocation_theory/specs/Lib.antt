pub mod Raised
pub mod Promises
