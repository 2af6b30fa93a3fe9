pub mod FillLaws
pub mod WordLaws
pub mod EntryLaws
pub mod KindLaws
pub mod HeadLaws
pub mod BlockLaws
pub mod PartLaws
