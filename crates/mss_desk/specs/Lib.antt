pub mod Desk
pub mod Memory
pub mod Shelf
pub mod Sure
