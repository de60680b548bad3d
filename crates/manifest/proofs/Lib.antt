pub mod Values
pub mod Names
pub mod NamedOnce
pub mod Judged
mod ReadBack
