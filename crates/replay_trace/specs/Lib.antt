pub mod Traces
pub mod HeldScan
