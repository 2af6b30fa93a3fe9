pub mod Trace
pub mod Promises
