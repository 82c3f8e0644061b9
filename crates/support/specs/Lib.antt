pub mod Support
pub mod View
pub mod Passes
