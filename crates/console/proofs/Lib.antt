pub mod PrintLaws
pub mod GivenLaws
pub mod ReadLaws
pub mod WriteLaws
