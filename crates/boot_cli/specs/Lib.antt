pub mod ErrorEnd
pub mod JsonEnd
pub mod OrderEnd
pub mod WordsEnd
