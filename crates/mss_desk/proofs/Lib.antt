pub mod Others
pub mod Shelved
