pub mod Order
pub mod VersionText
