pub mod Tree
pub mod Traces
pub mod Run
pub mod Promises
pub mod Terms
