pub mod Seats
pub mod Stage
pub mod Steps
pub mod Transcript
