pub mod UsedLaws
pub mod LoopLaws
pub mod TurnLaws
pub mod ReturnLaws
pub mod ArmLaws
