pub mod Counting
pub mod Founded
pub mod Marking
pub mod Order
pub mod OwnRefusals
pub mod Right
pub mod Searches
pub mod Taken
