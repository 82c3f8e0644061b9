pub mod Places
pub mod Trips
