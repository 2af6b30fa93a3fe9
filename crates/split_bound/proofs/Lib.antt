pub mod PartLaws
pub mod CaseLaws
