pub mod KeptLaws
pub mod DepartLaws
