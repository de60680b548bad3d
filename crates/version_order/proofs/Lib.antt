pub mod OrderLaws
pub mod Readings
pub mod VersionTexts
