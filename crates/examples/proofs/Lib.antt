pub mod Shown
pub mod Playing
pub mod Witness
