pub mod EntryPoints
pub mod Promises
