pub mod OutcomeLaws
pub mod CodeLaws
pub mod TurnLaws
pub mod ArmLaws
