pub mod NameNumbers
pub mod TableView
pub mod Adding
pub mod MoreNamesLaws
pub mod NumberingLaws
