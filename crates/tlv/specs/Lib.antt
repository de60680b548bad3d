pub mod Codes
pub mod Making
pub mod Writing
