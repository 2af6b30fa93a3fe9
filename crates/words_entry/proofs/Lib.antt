pub mod FunctionLaws
pub mod FaultLaws
pub mod MeantLaws
pub mod LoweredLaws
pub mod PassedLaws
pub mod Theorems
