pub mod Opening
pub mod Announcing
pub mod Judging
pub mod Moving
pub mod Hearing
