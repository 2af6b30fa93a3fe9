pub mod LengthLaws
pub mod Theorems
pub mod FunctionLaws
