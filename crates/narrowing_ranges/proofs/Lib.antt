pub mod FormerLaws
pub mod Theorems
pub mod Examples
