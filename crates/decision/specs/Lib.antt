pub mod Telling
pub mod Found
pub mod Rows
pub mod Deciding
pub mod Places
