pub mod LineLaws
pub mod LengthLaws
pub mod WritingLaws
pub mod PrimitiveLaws
pub mod ImportLaws
