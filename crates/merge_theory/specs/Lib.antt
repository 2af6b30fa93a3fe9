pub mod Merge
pub mod Ways
pub mod Promises
