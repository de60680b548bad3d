pub mod Dependants
pub mod Running
