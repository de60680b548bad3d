pub mod CheckingRequests
pub mod EachPlace
pub mod ImageLookups
pub mod Unmet
