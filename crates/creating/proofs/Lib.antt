pub mod CopyLaws
pub mod NewDeviceLaws
pub mod NewFileLaws
pub mod NewImageLaws
pub mod NewManifestEnds
mod NewManifestLaws
