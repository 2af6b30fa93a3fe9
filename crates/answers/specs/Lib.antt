pub mod Answers
pub mod Terms
