pub mod Answered
pub mod Delivered
pub mod Gathered
pub mod Prepared
pub mod Asked
pub mod CyclesJudged
mod ReadNumbers
pub mod TablesRead
