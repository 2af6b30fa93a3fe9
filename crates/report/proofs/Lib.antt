pub mod Examples
pub mod ReportLaws
pub mod DecodeLaws
pub mod PathLaws
pub mod PutLaws
pub mod FoundLaws
