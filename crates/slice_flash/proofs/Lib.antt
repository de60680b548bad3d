pub mod Reaching
mod ByTable
mod Recorded
mod Refused
mod StepRows
mod Writes
mod ReadOnlyLaws
mod Parts
mod Appended
mod Indexed
