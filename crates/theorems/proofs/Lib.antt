pub mod Cases
pub mod RefinedCases
pub mod EntryLaws
pub mod NearestLaws
pub mod Theorems
