pub mod Examples
pub mod NumberLaws
pub mod SignedLaws
pub mod IntegerLaws
pub mod ResidueLaws
pub mod MagnitudeLaws
