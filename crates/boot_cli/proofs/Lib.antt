mod ErrorLaws
mod JsonLaws
mod OrderLaws
mod WordsLaws
