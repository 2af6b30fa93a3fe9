pub mod Line
pub mod HeldGiven
pub mod Read
pub mod Asked
pub mod AskedTwo
