pub mod Format
pub mod Laws
pub mod Packets
pub mod Records
