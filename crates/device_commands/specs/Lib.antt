pub mod CoreEnd
pub mod ProvisionEnd
pub mod RunEnd
pub mod Telling
pub mod WordsEnd
