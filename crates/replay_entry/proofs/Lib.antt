pub mod FunctionLaws
pub mod Theorems
