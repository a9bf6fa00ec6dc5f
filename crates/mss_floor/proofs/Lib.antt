pub mod BlockCounts
pub mod LowestLists
pub mod FloorMade
pub mod OneFloor
pub mod OpenDays
