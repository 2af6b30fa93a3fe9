pub mod Answers
pub mod Faults
pub mod Meant
pub mod Promises
