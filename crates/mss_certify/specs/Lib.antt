pub mod Check
pub mod CheckLaws
pub mod Exactness
pub mod OneVerdict
