pub mod Packets
pub mod Records
pub mod Sealings
pub mod Views
