pub mod StepLaws
pub mod TreeLaws
pub mod SweepLaws
pub mod RunLaws
pub mod Theorems
