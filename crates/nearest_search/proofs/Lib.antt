pub mod Threefold
pub mod UnreadLaws
pub mod SearchLaws
pub mod Theorems
