pub mod PassLaws
pub mod CarryLaws
pub mod VisitLaws
pub mod SweepLaws
