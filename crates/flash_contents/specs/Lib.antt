pub mod Lifecycle
pub mod Holding
pub mod Passing
pub mod Prepared
pub mod Reading
pub mod Wear
pub mod SwapTypes
pub mod Starting
