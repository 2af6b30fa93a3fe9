pub mod TextLaws
pub mod ScanLaws
pub mod PieceLaws
pub mod LineLaws
pub mod JoinLaws
pub mod SplitLaws
