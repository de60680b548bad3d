mod EndLaws
mod ImageLaws
pub mod KeptLaws
mod OtherFiles
mod TellingLaws
pub mod WordsLaws
