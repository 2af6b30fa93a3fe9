pub mod Patch
pub mod Promises
pub mod Held
