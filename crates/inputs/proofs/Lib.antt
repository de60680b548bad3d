mod Written
pub mod ScriptLaws
pub mod ScriptFaultLaws
