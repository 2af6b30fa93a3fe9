pub mod Examples
pub mod PatchLaws
pub mod ReplacedLaws
pub mod Theorems
