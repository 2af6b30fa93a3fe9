pub mod DecimalLaws
pub mod NumeralLaws
pub mod ClampLaws
pub mod SpellingLaws
pub mod IntegerLaws
pub mod MemoryLaws
pub mod PlaceLaws
