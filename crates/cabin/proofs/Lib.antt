pub mod Hearings
pub mod Written
