pub mod ArmLaws
pub mod ContextLaws
pub mod ScanLaws
pub mod LoopLaws
pub mod CheckLaws
pub mod FoundLaws
