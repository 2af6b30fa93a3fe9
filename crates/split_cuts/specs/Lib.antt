pub mod Cuts
pub mod HeldScan
