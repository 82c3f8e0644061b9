pub mod Bounds
pub mod Kinds
pub mod Making
pub mod Refusals
