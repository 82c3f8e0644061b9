pub mod Answers
pub mod Coins
pub mod Seats
pub mod Stage
pub mod Steps
pub mod Transcript
pub mod Words
