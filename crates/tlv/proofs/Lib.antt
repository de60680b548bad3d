pub mod GroupSteps
pub mod MakingLaws
pub mod MakingSteps
pub mod ProtectedLaws
