pub mod Single
pub mod Places
pub mod Changes
pub mod Promises
pub mod Held
