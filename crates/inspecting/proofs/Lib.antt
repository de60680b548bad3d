mod CheckLaws
mod CutLaws
mod DeviceFileLaws
mod DeviceLaws
mod FleetReadingLaws
mod InspectionLaws
mod JsonWholeLaws
mod KeysReadBack
mod MergingLaws
mod PlanBreakLaws
mod PlanEndLaws
mod PlanLaws
mod ReleaseLaws
mod ResultLaws
mod RowKeyLaws
mod RowsLaws
mod SlotLaws
mod SourceLaws
mod SummaryLaws
mod TextLaws
pub mod PlanAnswerLaws
pub mod ReadingLaws
