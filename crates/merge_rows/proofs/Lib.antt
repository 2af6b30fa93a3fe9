pub mod ZipLaws
pub mod FieldLaws
pub mod FillLaws
pub mod RowLaws
pub mod MeetLaws
pub mod PartLaws
