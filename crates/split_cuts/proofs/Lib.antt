pub mod CutsLaws
pub mod PlaceLaws
pub mod ReadLaws
