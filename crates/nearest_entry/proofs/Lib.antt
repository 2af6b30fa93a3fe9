pub mod Examples
pub mod StartLaws
pub mod NameLaws
pub mod ReplacedLaws
pub mod FunctionLaws
pub mod Theorems
