pub mod Examples
pub mod ColumnLaws
pub mod OpcodeLaws
pub mod NameLaws
pub mod KindNameLaws
