pub mod HeldScan
pub mod HeldChecks
