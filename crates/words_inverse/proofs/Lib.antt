pub mod FileLaws
pub mod LineLaws
pub mod ImportedLaws
pub mod ExportedLaws
pub mod DecodedLaws
pub mod WrittenLaws
pub mod RestoredLaws
