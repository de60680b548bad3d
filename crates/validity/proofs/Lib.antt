pub mod DependantLaws
pub mod RunningSet
