pub mod NumberLaws
pub mod WordLaws
pub mod RowLaws
pub mod CodeLaws
pub mod FileLaws
pub mod Theorems
pub mod Examples
