pub mod Places
pub mod Rules
pub mod View
