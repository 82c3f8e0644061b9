pub mod Lawful
pub mod Moves
pub mod Bounds
