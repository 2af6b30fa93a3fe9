pub mod NameLaws
pub mod BlockLaws
