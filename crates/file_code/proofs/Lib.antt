pub mod CodeLaws
pub mod WholeLaws
pub mod PriceLaws
