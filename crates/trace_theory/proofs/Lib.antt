pub mod Examples
pub mod RecordingLaws
pub mod TextLaws
pub mod Theorems
