pub mod Decided
pub mod Marked
pub mod Once
