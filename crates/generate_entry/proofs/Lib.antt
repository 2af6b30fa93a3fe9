pub mod RowingLaws
pub mod NumberInLaws
pub mod CellLaws
pub mod FunctionLaws
