pub mod SingleLaws
pub mod AmountLaws
pub mod FirstLaws
pub mod CellLaws
pub mod PlaceLaws
pub mod Theorems
pub mod TrialLaws
