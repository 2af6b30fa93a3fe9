pub mod StepLaws
pub mod WritingLaws
pub mod Theorems
pub mod FunctionLaws
