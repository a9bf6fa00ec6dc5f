pub mod Words
pub mod Examples
pub mod Puts
pub mod Summary
pub mod Generates
pub mod Kept
pub mod KeptLaws
