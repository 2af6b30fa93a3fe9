pub mod ArgumentLaws
pub mod ExportingLaws
pub mod ReachLaws
