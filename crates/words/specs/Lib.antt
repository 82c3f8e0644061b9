pub mod Checks
pub mod Computation
pub mod Constants
pub mod Functions
pub mod Own
pub mod Padding
pub mod Sealers
pub mod Words
