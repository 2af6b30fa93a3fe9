pub mod Theorems
pub mod ArmLaws
