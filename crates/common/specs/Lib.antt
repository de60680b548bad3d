pub mod Ascii
pub mod Bytes
pub mod Checks
pub mod Kind
pub mod Limits
pub mod Lines
pub mod Masks
pub mod Reading
