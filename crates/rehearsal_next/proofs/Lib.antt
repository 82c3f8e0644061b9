pub mod Entries
pub mod Refusing
pub mod Stages
pub mod Words
pub mod Turns
