pub mod Answers
pub mod Promises
pub mod Listed
pub mod Refined
