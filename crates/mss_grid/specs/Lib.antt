pub mod Reading
pub mod Columns
pub mod Record
pub mod Grid
pub mod Examples
pub mod ColumnLaws
pub mod EntryLaws
pub mod RecordLaws
