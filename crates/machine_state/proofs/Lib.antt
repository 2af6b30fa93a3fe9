pub mod Stack
pub mod BlockLaws
pub mod ProgramLaws
pub mod StateLaws
