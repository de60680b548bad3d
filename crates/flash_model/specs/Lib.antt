pub mod Blanks
pub mod Chip
pub mod Codes
pub mod Memory
pub mod Torn
pub mod Units
pub mod Written
pub mod Calls
