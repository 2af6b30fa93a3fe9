pub mod Library
pub mod Refusals
