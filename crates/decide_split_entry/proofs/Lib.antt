pub mod FunctionLaws
pub mod Theorems
pub mod KeepLaws
