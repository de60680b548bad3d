pub mod Aliases
pub mod CodeListLaws
pub mod Folds
pub mod Names
pub mod OrderLaws
pub mod Program
mod SizesLaws
