pub mod Examples
pub mod LineLaws
pub mod CursorLaws
pub mod WalkLaws
pub mod LengthLaws
