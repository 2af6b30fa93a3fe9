pub mod SizeLaws
pub mod FunctionLaws
pub mod NameLaws
pub mod ListedLaws
pub mod Theorems
pub mod KeepLaws
