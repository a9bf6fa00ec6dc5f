pub mod SameDay
pub mod SuitNumbers
pub mod Loops
