pub mod Draws
pub mod Words
pub mod File
pub mod Promises
pub mod Held
