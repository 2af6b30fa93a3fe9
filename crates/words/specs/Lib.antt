pub mod Words
pub mod Decoding
pub mod Lines
pub mod Import
pub mod Held
pub mod Export
