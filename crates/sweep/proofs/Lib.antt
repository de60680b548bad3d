mod CutRuns
mod FoundLaws
mod MarkLaws
mod ScenarioLaws
pub mod SweepEndLaws
mod SweptLaws
mod TallyLaws
