pub mod MadeLaws
pub mod ReachLaws
