pub mod Stage
pub mod Examples
pub mod Witness
