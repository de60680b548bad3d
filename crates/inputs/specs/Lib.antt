pub mod DeviceInput
pub mod FileFlash
pub mod Loading
pub mod Script
pub mod ScriptFault
