pub mod Accepted
pub mod Same
