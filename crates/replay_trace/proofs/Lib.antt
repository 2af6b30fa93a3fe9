pub mod TraceLaws
pub mod Examples
