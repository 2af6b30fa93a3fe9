pub mod Answers
pub mod Replaced
pub mod Promises
pub mod Held
