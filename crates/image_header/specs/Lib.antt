pub mod Header
pub mod Codes
