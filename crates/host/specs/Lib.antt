pub mod Doings
pub mod Input
pub mod Inputs
pub mod ScriptLines
pub mod Status
