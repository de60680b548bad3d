pub mod Counted
pub mod Marks
pub mod Reported
