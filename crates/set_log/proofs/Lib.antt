mod Words
pub mod Spelled
mod Blank
mod View
mod Last
mod Turns
mod Moves
mod Placing
pub mod Table
mod LastRecord
pub mod LogFrame
