pub mod SizeLaws
pub mod AnswerLaws
pub mod KnownLaws
pub mod RefinedLaws
pub mod ListedLaws
pub mod FoundLaws
