pub mod CopyEnd
pub mod NewDeviceEnd
pub mod NewFileEnd
pub mod NewImageEnd
pub mod NewManifestEnd
pub mod NewManifestSteps
