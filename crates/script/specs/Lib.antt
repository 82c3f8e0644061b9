pub mod Answers
pub mod Lines
pub mod Settings
pub mod Stage
pub mod Steps
