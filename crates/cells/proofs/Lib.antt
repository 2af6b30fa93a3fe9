pub mod Covering
pub mod RangeLaws
pub mod JudgeLaws
pub mod CellLaws
pub mod AllowLaws
pub mod AnswerLaws
pub mod ComputeLaws
pub mod Theorems
