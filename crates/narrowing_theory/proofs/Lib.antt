pub mod PlainLaws
pub mod RunLaws
pub mod BoundLaws
pub mod MergedLaws
pub mod Theorems
pub mod Examples
