pub mod MergeLaws
pub mod CodeLaws
