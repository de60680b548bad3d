pub mod Json
pub mod Component
pub mod Manifest
pub mod Fault
pub mod Ids
pub mod Codes
pub mod Rows
