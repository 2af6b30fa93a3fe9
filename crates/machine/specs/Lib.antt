pub mod Lists
pub mod Machine
pub mod Order
pub mod Forward
pub mod Targets
pub mod Covering
pub mod Promises
pub mod Terms
