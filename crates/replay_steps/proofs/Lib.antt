pub mod Examples
pub mod ReplayLaws
pub mod Theorems
pub mod FollowLaws
pub mod LoopLaws
